pub mod StateLaws
pub mod SnowfallLaws
pub mod FreshLaws
pub mod TestLaws

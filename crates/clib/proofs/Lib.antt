pub mod PlaceLaws
pub mod HandedLaws
pub mod TextLaws
pub mod ReturnedLaws
pub mod WhyLaws
pub mod GridLaws

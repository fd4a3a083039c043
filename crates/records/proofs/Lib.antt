pub mod Temperatures
pub mod FrostLaws
pub mod PlaceLaws
pub mod VerdictLaws
pub mod AnswerLaws
pub mod FrontLaws
pub mod LentLaws

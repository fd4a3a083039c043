pub mod GroundLaws
pub mod ReasonLaws
pub mod AskingLaws
pub mod FactLaws
pub mod WhyLaws
pub mod AnswerLaws

pub mod ExampleLaws
pub mod LineLaws
pub mod AnswerLaws

pub mod FaultLaws
pub mod SheetLaws
pub mod CoverLaws
pub mod TextLaws
pub mod AnswerLaws
pub mod ReadLaws
pub mod TextWords

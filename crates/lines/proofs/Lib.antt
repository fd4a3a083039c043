pub mod ReadingLaws
pub mod WritingLaws
pub mod TellingLaws

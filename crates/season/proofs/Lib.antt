pub mod ReadingLaws
pub mod LinesLaws

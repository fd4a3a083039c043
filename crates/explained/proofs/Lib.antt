pub mod LineLaws
pub mod TellingLaws
pub mod DayLaws
pub mod ExampleLaws

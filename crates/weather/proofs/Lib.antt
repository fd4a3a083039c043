pub mod TodayLaws
pub mod Temperatures

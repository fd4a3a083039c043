-- What is told of a day.
pub mod Lines
pub mod Telling
pub mod Examples

-- A station's readings, a line a day, and what is answered to each.
pub mod Readings
pub mod Answers
pub mod Examples

-- The input's numbers, and the output's lines.
pub mod Reading
pub mod Lines
pub mod Writing
pub mod Telling

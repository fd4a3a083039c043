-- A period's weather out of a text, and its days as lines.
pub mod Reading
pub mod Lines

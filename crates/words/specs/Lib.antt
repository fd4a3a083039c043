-- Words and whole numbers as bytes: what a word is, what number it means, how a number and a depth in inches are printed, and what is written into a buffer.
pub mod Words
pub mod Numbers
pub mod Digits
pub mod Spans
pub mod Writing
pub mod Inches

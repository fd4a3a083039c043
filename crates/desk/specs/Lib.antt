-- The mapping desk's files as a text of `balance` (02, M-101): what can be wrong with them, the text, and what is answered.
pub mod Faults
pub mod Sheets
pub mod CoverFile
pub mod Texts
pub mod TextWords
pub mod Answers

pub mod WordLaws
pub mod NumberLaws
pub mod DigitLaws
pub mod SolidLaws
pub mod WritingLaws
pub mod InchesLaws
pub mod FormatLaws

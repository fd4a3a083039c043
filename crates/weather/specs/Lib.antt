pub mod Conditions
pub mod Today

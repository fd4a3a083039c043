pub mod Days
pub mod Totals

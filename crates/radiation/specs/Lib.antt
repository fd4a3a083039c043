-- A day's weather and its estimate as the paper has them.
pub mod Estimates

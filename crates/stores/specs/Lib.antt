pub mod States
pub mod Snowfall
pub mod Fresh

pub mod Depths
pub mod Soil
pub mod CellDay
pub mod Totals
pub mod Downhill
pub mod Surveyed
pub mod Period

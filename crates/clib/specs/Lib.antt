pub mod Numbers
pub mod Given
pub mod Handed
pub mod Narrow
pub mod Texts
pub mod Whys
pub mod Estimates
pub mod Grids

pub mod Table
pub mod Slots
pub mod Plots
pub mod Grounds

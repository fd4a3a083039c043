pub mod Charts
pub mod Ways
pub mod Order
pub mod Cells

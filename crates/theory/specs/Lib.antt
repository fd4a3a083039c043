pub mod Lists
pub mod Sums
pub mod Lowest
pub mod Ways

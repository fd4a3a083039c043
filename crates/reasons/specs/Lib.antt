pub mod Whys
pub mod Grounds
pub mod Reading
pub mod Asked

-- Rule 8's table.
pub mod Retention

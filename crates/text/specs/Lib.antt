-- The program's text: the whole of what is printed for an input.
pub mod Program
pub mod Examples
pub mod Laying
pub mod Taking
pub mod Run

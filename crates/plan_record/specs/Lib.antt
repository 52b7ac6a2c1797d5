pub mod Record
pub mod Good
pub mod Whole
pub mod Starts

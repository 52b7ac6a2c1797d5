pub mod Little
pub mod Rows

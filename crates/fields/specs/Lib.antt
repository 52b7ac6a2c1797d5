pub mod Bytes
pub mod Fields
pub mod Lines
pub mod Numbers
pub mod Names
pub mod Readers
pub mod WrittenLines

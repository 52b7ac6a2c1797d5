pub mod Lines
pub mod Reading
pub mod Steps
pub mod Marks

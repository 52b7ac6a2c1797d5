pub mod Read
pub mod Starred

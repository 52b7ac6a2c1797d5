pub mod Limits
pub mod Record
pub mod Rules
pub mod Planned
pub mod Sized

pub mod Tries
pub mod Needed
pub mod NoSlower

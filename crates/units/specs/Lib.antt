pub mod Refusals
pub mod Places

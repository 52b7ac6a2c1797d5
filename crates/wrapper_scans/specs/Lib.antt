pub mod Chains
pub mod TestTimes
pub mod Asked
pub mod Held
pub mod Scans

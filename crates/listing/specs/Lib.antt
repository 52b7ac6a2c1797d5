pub mod Asked
pub mod Listing
pub mod Room
pub mod Rest
pub mod Forms

pub mod Search
pub mod Order
pub mod Least
pub mod Thumb
pub mod Lists

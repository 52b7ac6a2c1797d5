pub mod Steps
pub mod Place
pub mod Lists
pub mod Within

pub mod Puts
pub mod WrittenSoc

pub mod Bytes
pub mod Puts
pub mod Files
pub mod OldFiles

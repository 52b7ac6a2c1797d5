pub mod Describes
pub mod LeftOut
pub mod LineCount
pub mod Spacing
pub mod Numbers

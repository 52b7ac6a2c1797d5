pub mod LayoutAnswers
pub mod Laid
pub mod Held

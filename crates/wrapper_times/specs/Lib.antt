pub mod Times
pub mod TimeAnswers
pub mod Sums

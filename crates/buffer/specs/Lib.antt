pub mod Puts
pub mod WriterAnswers
pub mod Room

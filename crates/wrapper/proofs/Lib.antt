pub mod WrapperAnswerLaws
pub mod CaptureLaws
pub mod SumLaws

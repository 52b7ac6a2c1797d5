pub mod BlockLaws
pub mod BlockMarks

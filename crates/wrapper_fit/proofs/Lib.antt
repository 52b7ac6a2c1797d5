pub mod FitLaws
pub mod CellLaws
pub mod ElementLaws

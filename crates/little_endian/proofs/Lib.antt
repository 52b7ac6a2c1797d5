pub mod LittleLaws
pub mod RowLaws
pub mod StandLaws
pub mod MadeLaws

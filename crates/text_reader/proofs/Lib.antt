pub mod StepLaws
pub mod CountLaws
pub mod ModulesLaws
pub mod LinesOfLaws
pub mod MarkLaws

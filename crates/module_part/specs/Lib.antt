pub mod ModulePart
pub mod Trimmed

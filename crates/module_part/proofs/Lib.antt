pub mod PartLaws
pub mod TrimLaws
pub mod MarkedPart

pub mod BoundLaws
pub mod HeadLaws
pub mod LevelLaws
pub mod PartLaws

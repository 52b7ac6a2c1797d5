pub mod Blocks
pub mod DescribesOverlay
pub mod Fit
pub mod OverlayRules
pub mod WrittenOverlay
pub mod Together

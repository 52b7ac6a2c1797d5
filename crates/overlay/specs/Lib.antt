pub mod Overlay
pub mod Steps
pub mod OverlayMarks

pub mod Maxima
pub mod Counts
pub mod Fit
pub mod Cells
pub mod Elements

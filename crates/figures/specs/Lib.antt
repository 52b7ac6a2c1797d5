pub mod Cores
pub mod Texts
pub mod Figures
pub mod Records

pub mod ChainOrder
pub mod LaidLaws
pub mod LayoutLaws
pub mod AskedLaws

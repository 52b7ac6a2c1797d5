pub mod ApartLaws
pub mod CodeLaws
pub mod LinesApart
pub mod PairApart

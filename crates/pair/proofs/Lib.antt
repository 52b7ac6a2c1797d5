pub mod PairLaws
pub mod ShownLaws
pub mod PairMarkLaws

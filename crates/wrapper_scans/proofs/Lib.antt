pub mod ChainLaws
pub mod LengthLaws
pub mod KeptLaws
pub mod BidirLaws
pub mod TestTimeLaws
pub mod AskedLaws

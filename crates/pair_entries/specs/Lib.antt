pub mod LaidPair
pub mod OfPair
pub mod PlannedPair
pub mod TimedPair
pub mod WrittenPair

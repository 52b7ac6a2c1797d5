pub mod TimeLaws
pub mod BestLaws
pub mod PromisedTimes

pub mod WalkLaws
pub mod TryLaws
pub mod BudgetLaws
pub mod BestLaws
pub mod KnownLaws
pub mod Figures
pub mod SameLaws

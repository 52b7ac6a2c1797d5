pub mod EntryLaws
pub mod ToldLaws
pub mod BudgetDemand

pub mod BudgetAnswers
pub mod Met

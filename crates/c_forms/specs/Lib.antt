pub mod Words
pub mod SocForm
pub mod PlanForm
pub mod LayoutForm
pub mod BudgetForm
pub mod Fit

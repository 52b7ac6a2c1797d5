pub mod PlanDemand
pub mod MoreWires
pub mod CaptureLaws
pub mod SumLaws

pub mod TableLaws
pub mod EntryLaws
pub mod RefusedLaws
pub mod PlannerLaws

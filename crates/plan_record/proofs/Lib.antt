pub mod GoodPlanLaws
pub mod RecordLaws
pub mod StartLaws

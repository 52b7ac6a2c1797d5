pub mod PlanAnswers
pub mod Tables
pub mod Records
pub mod Refused

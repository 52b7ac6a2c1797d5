pub mod ListingAnswerLaws
pub mod AskedLaws
pub mod FrontLaws
pub mod FormLaws
pub mod LineLaws
pub mod ListingLaws

pub mod KeptLaws
pub mod PlaceLaws
pub mod SpendLaws
pub mod ListLaws
pub mod CountLaws
pub mod SpentLaws

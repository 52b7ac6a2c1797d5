pub mod SocWriterLaws
pub mod FigureLaws
pub mod GoodSocCounts
pub mod LineLaws
pub mod RunLaws
pub mod SizeLaws

pub mod FigureLaws
pub mod GoodSocLaws
pub mod PinsLaws

pub mod GoodLaws

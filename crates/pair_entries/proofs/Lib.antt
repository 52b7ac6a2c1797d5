pub mod EntryLaws
pub mod GoodAnswers
pub mod PairEntries

pub mod FileAnswerLaws
pub mod BytesBack
pub mod FileBack
pub mod FileLaws
pub mod OldLaws
pub mod ReadLaws
pub mod SpareLaws

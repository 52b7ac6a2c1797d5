pub mod WriterAnswerLaws
pub mod PutLaws
pub mod RoomLaws

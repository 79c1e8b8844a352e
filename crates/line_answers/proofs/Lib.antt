pub mod AnswerLaws
pub mod Lengths
pub mod Pieces

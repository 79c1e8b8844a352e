pub mod LineAnswers
pub mod AnswerLaws
pub mod Pieces
pub mod Lengths

pub mod Rows
pub mod RowLemmas
pub mod Asking
pub mod AskingLaws

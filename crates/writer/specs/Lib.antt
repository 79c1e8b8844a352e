-- Writing a field. Assumes nothing.
pub mod Write
pub mod Answers
pub mod Buffer
pub mod Added

pub mod Points
pub mod Words

pub mod Chart
pub mod Points
pub mod Words

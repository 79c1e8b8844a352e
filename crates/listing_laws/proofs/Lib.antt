pub mod Groups
pub mod Count

pub mod Buffer
pub mod Added

pub mod Minus
pub mod Reading

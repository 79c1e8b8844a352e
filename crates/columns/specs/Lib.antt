pub mod Columns
pub mod Theorems

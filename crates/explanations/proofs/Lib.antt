pub mod Theorems
pub mod Examples

pub mod Examples
pub mod Writers
pub mod Theorems

pub mod Digits
pub mod Theorems
pub mod Values
mod Examples

pub mod Explanations
pub mod Statements
pub mod Theorems
mod Examples

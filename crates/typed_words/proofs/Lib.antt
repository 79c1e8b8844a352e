pub mod Theorems
pub mod Examples
pub mod Lemmas

pub mod Theorems
pub mod Lemmas
pub mod Examples

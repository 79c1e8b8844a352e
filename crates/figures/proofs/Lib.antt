pub mod Under
pub mod Theorems

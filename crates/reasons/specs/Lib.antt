pub mod Reasons
pub mod Scaled
pub mod Theorems

pub mod WordLines
pub mod Lengths
pub mod Theorems
pub mod Examples

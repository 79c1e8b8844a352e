pub mod Coding
pub mod Demand
pub mod Words
pub mod Ready
pub mod Under
pub mod Theorems
pub mod Five

mod Signed
mod Products
pub mod Theorems
pub mod Examples
pub mod Circle
pub mod Mls

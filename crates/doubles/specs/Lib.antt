pub mod Exact
pub mod Nearest
pub mod Rounded
pub mod Doubles

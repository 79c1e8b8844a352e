pub mod Count
pub mod Exact
pub mod Doubles
pub mod Rounded

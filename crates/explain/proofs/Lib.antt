pub mod Moving
pub mod Parting

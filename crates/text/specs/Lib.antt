pub mod Ascii
pub mod Writing

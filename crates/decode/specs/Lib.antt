pub mod Rules
pub mod Decode

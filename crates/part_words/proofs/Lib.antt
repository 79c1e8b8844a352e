pub mod Carries
pub mod Bits

pub mod Bits
pub mod Run
pub mod Provenance
pub mod Sequence

pub mod Take
pub mod Sequence
pub mod Bits
pub mod Run
pub mod Provenance

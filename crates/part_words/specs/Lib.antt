-- Which part of the auxiliary data a word carries. Assumes nothing.
pub mod Parts
pub mod Bits
pub mod Carries

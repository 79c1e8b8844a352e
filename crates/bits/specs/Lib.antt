pub mod Fields
pub mod Layout
pub mod Laws
pub mod Parity
pub mod Complement
pub mod MachineLemmas

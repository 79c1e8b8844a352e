-- A word typed in hex, what its text must be, and that it is read back. Assumes nothing.
pub mod Words
pub mod Eight
pub mod Lemmas
pub mod Theorems
mod Examples

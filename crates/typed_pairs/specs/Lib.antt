-- What a typed line of a word and a figure is, and its laws. Assumes nothing.
pub mod Pairs
pub mod PairLines
pub mod Lemmas
pub mod Theorems
mod Examples

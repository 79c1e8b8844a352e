pub mod Examples
pub mod LoopLemmas
pub mod Theorems
pub mod TheoremsLemmas

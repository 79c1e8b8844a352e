pub mod TheoremsLemmas
pub mod Theorems

pub mod Fold
pub mod Rest
pub mod Stands
pub mod Walked
pub mod WithinLemmas

-- What walking a sheet gives. Assumes nothing.
pub mod Step
pub mod WithinLemmas
pub mod Rest
pub mod Stands
pub mod Fold
pub mod Walked

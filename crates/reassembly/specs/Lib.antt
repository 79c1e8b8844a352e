pub mod Step
pub mod Runs

pub mod Runs
pub mod Step

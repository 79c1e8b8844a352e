pub mod Runs
pub mod Returns

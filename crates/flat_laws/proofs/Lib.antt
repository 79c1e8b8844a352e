pub mod States
pub mod Back
pub mod Runs
pub mod Forth
pub mod Refusals
pub mod Words

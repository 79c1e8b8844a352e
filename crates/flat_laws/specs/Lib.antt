pub mod Codes
pub mod Back
pub mod Forth
pub mod Words
pub mod Refusals
pub mod States
pub mod Runs

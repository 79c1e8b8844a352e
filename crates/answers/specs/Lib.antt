pub mod Answers
pub mod Held
pub mod Lengths
pub mod Examples

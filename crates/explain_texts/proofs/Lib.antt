pub mod Counting
pub mod Going

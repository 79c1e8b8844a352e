-- The listing of a sheet. Assumes nothing.
pub mod Listing
pub mod Puts
pub mod Size
pub mod Short
pub mod Turn
pub mod TurnLemmas
pub mod LoopLemmas
pub mod BufferLemmas
pub mod WholeLemmas

-- The fields of a sheet as text, and its lines counted. Assumes nothing.
pub mod FieldLines
pub mod LoopLemmas
pub mod Size
pub mod Short
pub mod TheoremsLemmas

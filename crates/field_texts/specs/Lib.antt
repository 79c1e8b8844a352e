-- The content of a field as text, and that it is read back. Assumes nothing.
pub mod FieldTexts
pub mod Reading
pub mod TheoremsLemmas
pub mod Theorems

-- Labels as text. Assumes nothing.
pub mod LabelTexts
pub mod Theorems
pub mod Writers

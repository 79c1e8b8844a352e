-- The text of a summary. Assumes nothing.
pub mod SummaryTexts
mod Examples
pub mod Theorems
pub mod Lengths
pub mod Writers

pub mod Figures
pub mod Grammar
pub mod DigitTexts
pub mod Rows
pub mod Theorems
mod Examples

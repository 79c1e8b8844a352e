pub mod ReasonTexts

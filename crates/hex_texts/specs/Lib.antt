-- Bytes and words in hex digits, and that they are read back. Assumes nothing.
pub mod HexTexts
pub mod Reading
pub mod Every
pub mod Theorems

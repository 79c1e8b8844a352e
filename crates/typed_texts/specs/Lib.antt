pub mod Texts
pub mod Numbers
pub mod TextLaws
pub mod NumberLaws
mod Examples

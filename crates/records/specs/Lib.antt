pub mod All
pub mod Kinds
pub mod Layouts

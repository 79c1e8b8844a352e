pub mod All
pub mod Layouts

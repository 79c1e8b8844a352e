pub mod LineLaws
pub mod TwoParts
pub mod Examples

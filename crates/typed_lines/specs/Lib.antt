-- The parts of a typed line, and their laws. Assumes nothing.
pub mod Lines
pub mod LineLaws
pub mod TwoParts
mod Examples

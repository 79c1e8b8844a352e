-- A file that is named, in a buffer. Assumes nothing.
pub mod Once

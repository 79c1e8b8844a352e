-- What a reader gives. Assumes nothing.
pub mod Fields

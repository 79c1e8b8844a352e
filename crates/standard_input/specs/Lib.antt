-- Standard input in a buffer. Assumes nothing.
pub mod Input

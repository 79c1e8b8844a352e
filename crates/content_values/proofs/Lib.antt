-- Laws that the proofs of several functions cite. Assumes nothing.
pub mod Elements

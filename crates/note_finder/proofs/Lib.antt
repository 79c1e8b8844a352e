-- What the proofs share. Assumes nothing.
mod Search

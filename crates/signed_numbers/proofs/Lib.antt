pub mod SignedTheorems

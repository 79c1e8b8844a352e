-- What asking for a note gives. Assumes nothing.
pub mod Note
pub mod Place

pub mod Contents
pub mod Notes

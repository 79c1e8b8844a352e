pub mod Fields
pub mod Encode
pub mod Laws

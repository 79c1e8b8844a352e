pub mod Encode
pub mod Laws

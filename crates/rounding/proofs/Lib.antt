mod Signed
pub mod Laws

pub mod Agreement
pub mod Agreeing

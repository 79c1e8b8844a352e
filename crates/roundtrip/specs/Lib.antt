pub mod Digits
pub mod Reading
pub mod Back
pub mod Forth
pub mod RoundTrip

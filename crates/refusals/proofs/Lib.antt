pub mod Numbers
pub mod Order

pub mod Examples
pub mod NumberLaws

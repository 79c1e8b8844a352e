pub mod Fourth
pub mod Statuses

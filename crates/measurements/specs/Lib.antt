pub mod Measurements

-- Checking a sheet. Assumes nothing.
pub mod Checked
pub mod StepsLemmas

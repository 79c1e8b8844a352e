-- The listing by the sheet's groups, and its lines counted. Assumes nothing.
pub mod Groups
pub mod Count
mod Examples

pub mod EntryPoints
pub mod Summaries

pub mod Pages
pub mod Summaries
pub mod EntryPoints

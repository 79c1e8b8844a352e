-- What a sheet is, byte by byte. Assumes nothing.
pub mod Start
pub mod Run
pub mod Laws
pub mod HeaderLemmas
pub mod Limits
pub mod Grammar
pub mod AndThenLemmas
pub mod Append
pub mod Moved
pub mod Answers
pub mod Rules
pub mod RulesLemmas

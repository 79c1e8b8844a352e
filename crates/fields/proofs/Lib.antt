pub mod Judged
pub mod Grammar
pub mod Append
pub mod HeaderLemmas
pub mod Laws
pub mod Moved
pub mod Limits
pub mod RulesLemmas

pub mod Label
pub mod BytesLemmas
pub mod LabelLaws
pub mod Table
pub mod Assignment

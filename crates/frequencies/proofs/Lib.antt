pub mod Third

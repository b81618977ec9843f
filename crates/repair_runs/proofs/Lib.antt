pub mod FewerMarks
pub mod Replacements
pub mod Mending

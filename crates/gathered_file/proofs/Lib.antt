pub mod Left
pub mod Gathered
pub mod RunBytes
pub mod Steps

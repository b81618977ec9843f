pub mod Content
pub mod Writing

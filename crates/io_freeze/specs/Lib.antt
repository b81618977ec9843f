pub mod Calls
pub mod Guards
pub mod Rows

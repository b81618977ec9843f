pub mod Numbers
pub mod Rows
pub mod Grammar
pub mod UnlessMemory
pub mod Writing
pub mod Slots
pub mod Runs

pub mod Holding
pub mod Leading
pub mod Tasks
pub mod Turns

pub mod FileCalls
pub mod Notes
pub mod PageBytes
pub mod Recorded
pub mod FileDisks

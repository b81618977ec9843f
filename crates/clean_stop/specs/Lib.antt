pub mod Masks
pub mod Stopping

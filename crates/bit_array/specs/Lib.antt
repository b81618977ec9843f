pub mod Bits
pub mod Fault
pub mod Mask
pub mod Reading
pub mod Words

pub mod Ascii
pub mod Floats
pub mod Steps
pub mod Volumes

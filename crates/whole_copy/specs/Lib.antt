pub mod Meant
pub mod Copied

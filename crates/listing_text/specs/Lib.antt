pub mod Listing
pub mod Json
pub mod Forest
pub mod Drawing
pub mod Tree
pub mod Formats

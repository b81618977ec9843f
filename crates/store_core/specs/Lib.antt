pub mod Opening
pub mod StoreInvariant
pub mod Removing
pub mod Planning

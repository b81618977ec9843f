pub mod BelowParents
pub mod EachItem
pub mod EachOnce
pub mod OneText
pub mod Permuted
pub mod TreeOfStore

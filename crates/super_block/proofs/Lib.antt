pub mod Passed
pub mod Ends
pub mod Pairs
pub mod Again
pub mod Placed
pub mod Planned

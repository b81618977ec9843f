pub mod Calls
pub mod Delivery
pub mod Queue
pub mod QueueEnds

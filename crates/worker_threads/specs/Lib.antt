pub mod LockedStores
pub mod Senders

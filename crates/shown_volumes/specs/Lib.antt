pub mod Maps
pub mod Shown
pub mod EmptySlots
pub mod ShowsStep
pub mod JobLaws
pub mod Steady
pub mod StoredLaws

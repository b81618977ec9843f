pub mod NumberLaws
pub mod Heads
pub mod OneReading

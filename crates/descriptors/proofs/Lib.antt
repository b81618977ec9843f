pub mod ReadingSteps
pub mod LongestRunsAreOne
pub mod OneReading
pub mod Lengths
pub mod WrittenAgain
pub mod FilledSlots
pub mod LongestRuns

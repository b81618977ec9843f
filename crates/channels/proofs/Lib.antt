pub mod OwnTurns
pub mod Stages
pub mod HeldUp
pub mod NextSteps
pub mod Held
pub mod Runs
pub mod Schedules
pub mod Acting
pub mod StepsMade
pub mod Keeping
mod Leading
pub mod Stepping
pub mod MetadataActing
pub mod Ending
pub mod QueueLooked
pub mod Looping
pub mod Starting

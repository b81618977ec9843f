pub mod Actors
pub mod ChannelState
pub mod ChannelSteps
pub mod Driving
pub mod QueueLooks
pub mod RunEnds
pub mod StepwiseRuns

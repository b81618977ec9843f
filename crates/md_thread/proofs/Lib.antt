pub mod Planned
mod PlannedAttributes
pub mod PlannedSlots
mod MessageTurns
pub mod TurnsRepaired
pub mod Leading
mod RowsLeft
pub mod StepsDue
mod StepsMade
mod PlannedFills
mod FillSteps
mod JobsMade
pub mod StandsNow
mod Joining
mod Services
mod FillsEnded
mod SomeTurns
mod FillMade
mod FillStage
mod Dropped
pub mod RowsAlong
mod Asking

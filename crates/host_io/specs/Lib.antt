pub mod ExitStatuses
pub mod OpenFaults

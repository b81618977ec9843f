pub mod Marks
pub mod RefusedAt
pub mod SnapshotJobs
pub mod SnapshotPlans

pub mod Clones
pub mod DeleteCauses
pub mod DeleteJobs
pub mod DeletePlans
pub mod FillCauses
pub mod FillJobs
pub mod Fills

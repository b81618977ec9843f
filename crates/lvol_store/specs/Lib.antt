pub mod Names
pub mod Plans
pub mod SlotPlans
pub mod CopyPlans
pub mod DeletePlans
pub mod FillPlans
pub mod RenamePlans

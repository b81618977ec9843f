pub mod PlannedPages

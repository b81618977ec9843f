pub mod RepairRuns
pub mod RepairLaws

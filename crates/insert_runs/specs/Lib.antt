pub mod InsertRuns
pub mod InsertLaws

pub mod Wanted
pub mod PutInSlots
pub mod WantedTurns
pub mod InsertsOfRuns

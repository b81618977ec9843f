pub mod Answering
pub mod RowsWork
pub mod JobTurns
pub mod Telling
pub mod Infos
pub mod Adopting

pub mod TouchedPages
pub mod PagesWritten
pub mod TurnsMade
pub mod KeptClean

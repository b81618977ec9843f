mod FullRows
mod FullWords
mod FullLevels
mod Parsed
mod Stops
mod TakenWords

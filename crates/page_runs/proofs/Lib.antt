pub mod Runs
mod Filling

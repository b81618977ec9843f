mod Offering
mod Taken
mod Lines

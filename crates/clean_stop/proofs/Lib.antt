mod Places
mod Supers
mod Written
mod Unloading
mod Read

pub mod Named
mod LastRefused
mod NewNames

pub mod Fitting
pub mod Trees

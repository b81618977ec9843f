pub mod Span
pub mod Page
pub mod Numbers
pub mod Faults
pub mod Layout
pub mod Placed

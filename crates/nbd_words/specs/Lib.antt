pub mod Numbers
pub mod Options
pub mod Requests
pub mod Taking
pub mod Answers

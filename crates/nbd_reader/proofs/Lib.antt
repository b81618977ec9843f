pub mod TakenBytes
pub mod Said

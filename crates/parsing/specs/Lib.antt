pub mod Reads
pub mod Words
pub mod Parts
pub mod Integer
pub mod ReadError

pub mod WorldText
pub mod Looks
pub mod Fetched

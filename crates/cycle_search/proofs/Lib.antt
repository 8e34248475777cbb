pub mod Falls
pub mod Walks

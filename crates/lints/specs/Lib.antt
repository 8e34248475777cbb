pub mod Collected
pub mod Constants
pub mod Deeds
pub mod Kinds
pub mod Repeats
pub mod Skips
pub mod Lints

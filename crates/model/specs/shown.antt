pub mod Input
pub mod Outcome
pub mod Overlay

pub mod Depths
pub mod Heads

pub mod Puts
pub mod Turns
pub mod Targets
pub mod Opened
pub mod Inserted
pub mod Spawns

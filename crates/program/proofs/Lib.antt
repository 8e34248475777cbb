mod Noting
pub mod Fitting
pub mod LoadedWorlds
pub mod Loads
pub mod Replays
pub mod Serving
pub mod Stopping
pub mod Times

pub mod RunState
pub mod Meaning
pub mod Causes
pub mod Runs
pub mod WideRuns
pub mod Laws
pub mod Replays

mod LoopSteps
pub mod RaceSteps
pub mod Syncs

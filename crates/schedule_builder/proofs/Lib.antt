pub mod Lookups
pub mod ScheduleOrders
pub mod Orderings
pub mod Assembly
pub mod SystemSets
pub mod Counting
pub mod Counted
mod Listings
pub mod LevelSteps
pub mod Levelling
pub mod Faults
pub mod Askings
mod LoopSteps
mod FirstFound
mod Exits

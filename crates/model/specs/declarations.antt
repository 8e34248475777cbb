pub mod Walks
pub mod Hierarchy
pub mod Edges
pub mod Declarations
pub mod Refusals
pub mod ScheduleOrder
pub mod Codes

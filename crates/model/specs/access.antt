pub mod Query
pub mod Access
pub mod Conflict
pub mod Meeting
pub mod Condition
pub mod QueryFaults
pub mod SelfConflict

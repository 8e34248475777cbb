pub mod Blocks
pub mod Entities
pub mod Items
pub mod Known
pub mod Mapped
pub mod Refusals
pub mod Spelled
pub mod Systems
pub mod Unread
pub mod Wrong
mod Rests
mod Counts
pub mod EntityCounts
pub mod FaultyFiles

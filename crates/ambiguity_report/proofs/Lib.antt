pub mod Reaching
pub mod Backwards
pub mod Members
pub mod Reporting
pub mod Settling
mod AllPaths

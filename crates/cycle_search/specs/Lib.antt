pub mod Orders
pub mod Cycles

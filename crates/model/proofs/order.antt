pub mod Histories
pub mod Order
pub mod Extending
pub mod Hierarchies

pub mod Circles
pub mod Reaching
pub mod Nodes
pub mod Ordered
pub mod EdgeLists
pub mod Coverages

pub mod Paths
pub mod Races
pub mod Report

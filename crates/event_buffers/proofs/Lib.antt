pub mod ListsOfEvents
pub mod Numbered
pub mod Queues

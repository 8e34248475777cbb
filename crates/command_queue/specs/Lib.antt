pub mod Commands
pub mod ChangePlaces
pub mod Pending

pub mod Words
pub mod Views
pub mod HandsOff
pub mod Board
pub mod Plays
pub mod Held
pub mod Ends

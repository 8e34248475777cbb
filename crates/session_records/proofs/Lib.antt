pub mod Divergences
pub mod Entries
pub mod Retaken
pub mod Telling

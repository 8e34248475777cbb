pub mod Diverging
pub mod Entries
pub mod Stories
pub mod Texts
pub mod Reported

pub mod Marked
pub mod Near

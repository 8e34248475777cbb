pub mod Arrows
pub mod Drawn
pub mod Folding
pub mod Marks
pub mod Places

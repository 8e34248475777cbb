pub mod Asked
pub mod Commands
pub mod Grammar
pub mod Parts
pub mod Faults
pub mod Widths
pub mod Load

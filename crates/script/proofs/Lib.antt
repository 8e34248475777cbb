pub mod Distinct
pub mod Spawned
pub mod Free
pub mod Parts
mod Faulty
mod Running
mod Terms
mod Causes
mod Fields
mod Spelled
mod Stepped
mod CodeFaults
mod Together
mod Within
pub mod RowCells
pub mod Words
pub mod Cells
pub mod Frames
pub mod Plans
pub mod Steps
pub mod Stores
pub mod OtherRow
pub mod Follows
pub mod Orders
pub mod ColumnCode
pub mod ListedCode
pub mod Sources
pub mod TakingMemory

mod Edits
mod Views
pub mod States
mod Times
pub mod Values
pub mod Gets
pub mod Keeps
pub mod SheetWords
pub mod Sheets
pub mod SheetWrites
pub mod SheetCloses
pub mod SheetOpens
pub mod SheetCalls
pub mod Alongside
pub mod Tables
pub mod Plannings
pub mod Aloneness
pub mod Lendings
pub mod LendingCloses
pub mod Pickings
mod Emptied
pub mod Openings
pub mod QueryOpens
pub mod Outs
pub mod Counts
pub mod FieldWords
pub mod Orders
pub mod TurnRows
pub mod FieldRows
pub mod ListedRows
pub mod Sent
mod Readers
pub mod NewEntities
pub mod KeptPlans
pub mod HeldPicks

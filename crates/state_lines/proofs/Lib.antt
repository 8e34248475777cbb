pub mod Lines
mod KeptEvents
mod Fetched

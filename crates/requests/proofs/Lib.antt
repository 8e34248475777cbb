mod Ids
mod FieldTexts
mod ComponentTexts
mod ArgumentTexts
mod Lines
mod FirstWords
pub mod Widths

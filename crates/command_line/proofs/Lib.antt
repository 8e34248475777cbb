pub mod Parsers
pub mod Numerals
pub mod Asking
pub mod Examples

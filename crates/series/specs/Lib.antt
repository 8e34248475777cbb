pub mod Values
pub mod Names
pub mod Rows
pub mod Csv
pub mod Chart

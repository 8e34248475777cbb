pub mod CheckText
pub mod ReportText

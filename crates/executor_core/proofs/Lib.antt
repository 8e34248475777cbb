pub mod Judging
pub mod AcceptedSteps
pub mod Telling
pub mod Counted
pub mod Rows
pub mod Known
mod Lists

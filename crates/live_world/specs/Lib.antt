pub mod Greeting
pub mod Opened
pub mod Sent

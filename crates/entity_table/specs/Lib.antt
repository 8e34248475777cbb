pub mod Status
pub mod Rising
pub mod Ids
pub mod Rows
pub mod Granting

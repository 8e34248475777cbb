pub mod Marks
pub mod Readers
pub mod Conditions
pub mod Leaves

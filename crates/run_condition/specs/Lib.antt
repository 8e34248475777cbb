pub mod Tree
pub mod Access
pub mod Word
pub mod Grammar
pub mod Fronts

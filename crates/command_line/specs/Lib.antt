pub mod Args
pub mod Grammar
pub mod Values
pub mod Asked

pub mod FirstWord
pub mod LongNumber
pub mod Name

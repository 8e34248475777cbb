pub mod PlaceFault
pub mod Among
pub mod Keys
pub mod Readings
pub mod FaultText
pub mod Rounds
pub mod Tables
pub mod Faults

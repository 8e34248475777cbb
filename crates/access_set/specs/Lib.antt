pub mod Meets
pub mod MeetsIn
pub mod Datum
pub mod Footprints
pub mod Union

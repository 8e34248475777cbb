pub mod Ends
pub mod Progress
pub mod Offers
pub mod Single
pub mod Width
pub mod WideOfOne
pub mod Unrecorded
pub mod Determinism

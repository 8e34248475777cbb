pub mod Drift
pub mod Printed

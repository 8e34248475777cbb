pub mod Grammar
pub mod TextFaults
pub mod Verdicts
pub mod ReplayFaults
pub mod Standing

pub mod Answers
pub mod Causes
pub mod Decisions
pub mod ExactFaults
pub mod Judging

pub mod Ran
pub mod JobOut
pub mod IsTied
pub mod Stand

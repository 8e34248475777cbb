mod Joining
mod Stepping

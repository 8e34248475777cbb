pub mod Stands
pub mod Judges
pub mod Meetings
pub mod Traces

pub mod Asked
pub mod Hosted
pub mod Retaken

pub mod StateText
pub mod Laws
pub mod LineWords
pub mod Reading

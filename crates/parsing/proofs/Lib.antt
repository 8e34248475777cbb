pub mod Cuts
pub mod WordsOfText
pub mod PartsOfText
pub mod Grammars

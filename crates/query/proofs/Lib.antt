pub mod KindTerms
pub mod QueryTexts
pub mod Named
pub mod Fetches
pub mod Terms
pub mod OrTerms
pub mod WordLists

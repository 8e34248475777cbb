pub mod Divergences
pub mod Explanations
pub mod PairTexts
pub mod RecordAnswers
pub mod Lines
pub mod Pictures
pub mod Traces

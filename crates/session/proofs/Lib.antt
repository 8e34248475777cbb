mod Alike
mod Kept
mod LineCounts
mod LinesAlike
mod Lives
mod Lockstep
mod MarksAlike
mod Playing
mod Ready
mod Taken
mod BodyLines
mod NamedFiles
mod LoadedTexts
pub mod LoadReplies
mod LoadTurns
pub mod Retaken
mod Noted
mod AnyMode
mod Replayed

mod Lines
mod TakenAgain

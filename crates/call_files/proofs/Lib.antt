pub mod OneAnswer
pub mod Answered
pub mod GoodFiles
pub mod DoneWork
pub mod FileWrites

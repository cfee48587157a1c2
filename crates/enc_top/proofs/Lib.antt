pub mod Ranges
pub mod WordLists
pub mod Answered
pub mod Causes
pub mod FormWords
pub mod OneAnswer
pub mod Completed
pub mod GeneratedWork
mod Reports
mod RoomAnswers
mod Numbers
mod CommitWork
mod Coordinates
mod EdgeWork
mod ProbedWork
mod UpdateWork
mod Ended

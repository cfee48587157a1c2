pub mod Replays
pub mod SessionStates

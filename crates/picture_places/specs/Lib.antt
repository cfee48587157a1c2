pub mod Page
pub mod Strokes
pub mod Areas
pub mod Places
pub mod Labels
pub mod Holds
pub mod North

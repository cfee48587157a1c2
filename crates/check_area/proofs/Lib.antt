pub mod Ways
pub mod Loops
pub mod Turns
pub mod Rows
pub mod Lines
pub mod Places

pub mod Moves
pub mod Turns
pub mod Rooms
pub mod Shared

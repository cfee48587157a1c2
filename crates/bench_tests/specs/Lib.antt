pub mod Moves
pub mod ReadyRows

pub mod InTurns
pub mod Orders
pub mod Counted

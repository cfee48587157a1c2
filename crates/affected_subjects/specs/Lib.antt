pub mod Reached
pub mod Rounds
pub mod NewPairs
pub mod EditedCells
pub mod Laws

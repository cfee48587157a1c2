pub mod Contents
pub mod DecodedCells
pub mod Records

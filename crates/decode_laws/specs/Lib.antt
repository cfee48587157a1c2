pub mod DecodedCells

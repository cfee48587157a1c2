pub mod Points
pub mod Segments
pub mod Signs
pub mod Boxes
pub mod Tiles
pub mod Areas
pub mod Laws

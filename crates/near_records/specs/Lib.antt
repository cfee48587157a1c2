pub mod Near
pub mod LineEnds

pub mod Changes
pub mod Extents
pub mod Tilings

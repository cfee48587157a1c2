pub mod NoContact
pub mod Keys
pub mod Parts
pub mod Places
pub mod Segmented
pub mod Extents
pub mod NumberedSegments

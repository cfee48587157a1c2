pub mod Contacts
pub mod SharedPlaces
pub mod SegmentedLines
pub mod Parts

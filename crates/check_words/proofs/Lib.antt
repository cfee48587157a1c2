pub mod Appends
pub mod FoundItems

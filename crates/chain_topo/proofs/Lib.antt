pub mod Moved
pub mod Named
pub mod Only
pub mod Orders
pub mod Parts
pub mod PointerCounts
pub mod Selected
pub mod SmallRecords

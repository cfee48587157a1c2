pub mod Sums
pub mod Crossings
pub mod Kept
pub mod Named
pub mod Rows
pub mod EdgeSums
pub mod BalancedSides
pub mod Lines

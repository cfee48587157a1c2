pub mod Changed
pub mod Folded
pub mod Pairs
pub mod Range
pub mod Steps

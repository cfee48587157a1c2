pub mod Winding
pub mod Kept
pub mod Sorts
pub mod Totals
pub mod Sheet
pub mod WindingLaws
pub mod ProbeText

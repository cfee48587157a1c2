pub mod FoundRecords
pub mod BlockRows
pub mod Findings
pub mod ReadSets
pub mod ShortLines
pub mod NameKeys

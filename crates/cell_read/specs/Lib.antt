pub mod FileParts
pub mod Gives
pub mod Kept
pub mod KeptRecords
pub mod NamesSeen
pub mod RecordsFrom
pub mod ValuesOf
pub mod Windows

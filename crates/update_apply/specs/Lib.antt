pub mod CodedAttributes
pub mod FileParts
pub mod Gives
pub mod Kept
pub mod RowSizes

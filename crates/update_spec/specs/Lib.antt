pub mod UpdateFaults
pub mod ControlFields
pub mod UpdateFields
pub mod UpdatedRows
pub mod UpdatedAttributes
pub mod UpdateRecords
pub mod UpdateHead
pub mod UpdatedCell

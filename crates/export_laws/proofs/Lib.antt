pub mod FileBytes
pub mod TypedCells
pub mod TypedExports
pub mod TypedRecords
pub mod TypedRows
pub mod TypedScripts

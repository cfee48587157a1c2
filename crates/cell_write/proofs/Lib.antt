pub mod FitLists
pub mod RecordBytes
pub mod ShortRecords

pub mod Steps
pub mod Sessions
pub mod ReportText
pub mod Entries
pub mod EntriesReport
pub mod Served

mod Counted
mod EditedTables
mod Grouped
mod Judging
mod HeadNames
mod KeptSubjects
mod Refused
pub mod SingleReads
mod Totals
mod ValidRows

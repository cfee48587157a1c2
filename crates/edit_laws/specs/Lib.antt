pub mod KeptWritable
pub mod ReadBackAfterRuns

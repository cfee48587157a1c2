pub mod TakenLines
pub mod Refusals
pub mod Runs
pub mod TypedEdits
pub mod TypedRequests
pub mod TypedRuns

pub mod Stops
pub mod Runs
pub mod Sessions
pub mod Keeps
pub mod Words
pub mod Causes
pub mod Complete
pub mod Ends

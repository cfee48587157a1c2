pub mod Told
mod Adding
mod DiskReads
mod Numbers
mod Torn
pub mod Lists
pub mod Committing
pub mod Taking
mod Replaying
mod Replayed
mod Opening
mod Keeping
mod Commits
mod Texts
mod Readings

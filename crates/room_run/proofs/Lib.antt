mod Calls
mod Turns
mod Ends
mod Merged
mod Opened
mod Outcomes
mod Halts
mod Sent

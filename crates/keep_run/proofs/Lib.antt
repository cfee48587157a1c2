pub mod Steps
pub mod Fits
pub mod Going
pub mod Asking
pub mod Looping
pub mod Words
pub mod Answers
pub mod Exact
pub mod Whole
pub mod Opened
pub mod Ended
mod Told

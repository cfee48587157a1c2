mod Going
mod Replays
pub mod Moments

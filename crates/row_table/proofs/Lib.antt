pub mod Claims
pub mod Copies
pub mod Halves
pub mod Starts

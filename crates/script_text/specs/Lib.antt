pub mod Cuts
pub mod Widths
pub mod Items
pub mod Guess
pub mod Faults
pub mod Reading
pub mod Steps

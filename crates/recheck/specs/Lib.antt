pub mod Known
pub mod Preparing

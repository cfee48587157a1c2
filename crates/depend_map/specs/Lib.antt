pub mod Changes
pub mod Readers

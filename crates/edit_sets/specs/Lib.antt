pub mod FormFault
pub mod Counts
pub mod Places
pub mod Parts

pub mod Causes
pub mod Contests
pub mod Course
pub mod Faults
pub mod Left
pub mod Refusals
pub mod Requests

pub mod Causes
pub mod Contests
pub mod Faults
pub mod InOrder
pub mod Left
pub mod Newer
pub mod Only
pub mod Refusals

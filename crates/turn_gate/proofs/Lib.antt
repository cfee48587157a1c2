pub mod Prefixes
pub mod Entries
pub mod Views
pub mod TurnKept
pub mod HandlesKept
pub mod AfterCalls
pub mod Additions
pub mod SharedHandles

pub mod Desks
pub mod Interleaved
pub mod Orders
pub mod Served

pub mod Pairs
pub mod Unaffected
pub mod Tables

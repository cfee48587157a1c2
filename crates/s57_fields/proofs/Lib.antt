pub mod Fronts
pub mod Groups
pub mod RowWalk
pub mod JudgedRows
pub mod MoreBytes
pub mod UnitLemmas

mod Pieces
mod Ranges
mod SessionNames
mod Judged
mod Whole
pub mod OrderLines
mod ReadOrders

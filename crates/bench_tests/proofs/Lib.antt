pub mod ReadyRows
pub mod SquareBudget

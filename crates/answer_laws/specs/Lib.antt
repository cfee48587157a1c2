pub mod EditedAnswers
pub mod EditedCells

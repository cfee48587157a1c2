pub mod NearAnswers
pub mod ReadKeys
pub mod AskedEnds

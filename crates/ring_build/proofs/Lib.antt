pub mod Cutting
pub mod FrontLoop
pub mod TurnSteps

pub mod Square
pub mod Squares
pub mod GeneratedCell
pub mod GeneratedScripts

pub mod Words
pub mod Output
pub mod Task
pub mod Inputs
pub mod Outside
pub mod Refused
pub mod GoodFiles

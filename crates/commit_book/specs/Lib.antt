pub mod Books
pub mod CommitPlaces
pub mod Prepared

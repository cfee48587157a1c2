pub mod Newer
pub mod StatusText

pub mod Appending
pub mod Layouts
pub mod OutFields

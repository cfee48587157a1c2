pub mod Marks
pub mod EachOnce
pub mod Escaping
pub mod Pushes

pub mod Compilers
pub mod Rooms

mod Alone
pub mod Asks
pub mod Editors
pub mod Ends
mod Numbered
pub mod Orders
mod Left
mod Scripts

pub mod Appending
pub mod Gives
pub mod HeadSubfields
pub mod RowCutting
pub mod RowLayouts
pub mod Units
pub mod Spelling

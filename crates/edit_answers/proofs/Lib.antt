pub mod Borne
pub mod KeyByKey
pub mod NamesAfter
pub mod Ties
pub mod Unedited

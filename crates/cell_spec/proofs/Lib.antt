pub mod Ascending
pub mod Deduplicated
pub mod EachItem
pub mod InOrder
pub mod Orders
pub mod Searched
pub mod SubjectOrder

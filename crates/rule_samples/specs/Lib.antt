pub mod Changes
pub mod Expected
pub mod Tables

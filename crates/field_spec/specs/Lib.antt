pub mod Cutting
pub mod FieldContent
pub mod Contents
pub mod FieldBytes
pub mod FieldFit
pub mod Spelling

pub mod Subfield
pub mod FieldRows
pub mod RecordFields
pub mod Fitness
pub mod Heads
pub mod RecordNames

pub mod Lines
pub mod CellText
pub mod EditLine
pub mod OrderLine
pub mod ScriptLines

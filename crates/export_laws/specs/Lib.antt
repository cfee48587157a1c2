pub mod DecodedTypes
pub mod ExportedCells
pub mod ScriptTypes

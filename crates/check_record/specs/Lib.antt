pub mod EndKeys
pub mod Blocks
pub mod RecordRow

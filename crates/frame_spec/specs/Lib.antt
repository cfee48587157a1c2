pub mod RecordFrame
pub mod FrameDecision
pub mod FrameFaults
pub mod WrittenRecord

pub mod DigitCounts
pub mod FrameTests
pub mod PlacedBytes
pub mod WrittenDigits
pub mod WrittenEntries
pub mod WrittenFrame
pub mod WrittenLeader
pub mod WrittenSizes

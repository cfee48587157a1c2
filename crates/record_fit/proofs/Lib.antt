pub mod PlainTexts
pub mod RowLengths
pub mod PresentFields
pub mod RecordLengths
pub mod WrittenLengths
pub mod HeadLengths

pub mod CellFields
pub mod RecordSteps
pub mod WrittenFile
pub mod RecordBack
pub mod CellBack
pub mod RoundTrip
pub mod GrownCell
pub mod TypedCell

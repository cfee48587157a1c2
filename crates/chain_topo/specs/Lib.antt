pub mod Answers
pub mod Listed
pub use Rattle.cell_spec.specs.Readable
pub mod Span

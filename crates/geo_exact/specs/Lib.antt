pub use Rattle.geometry_spec.specs.Points
pub use Rattle.geometry_spec.specs.Segments
pub use Rattle.geometry_spec.specs.Signs
pub use Rattle.geometry_spec.specs.Boxes
pub use Rattle.geometry_spec.specs.Tiles
pub use Rattle.geometry_spec.specs.Areas

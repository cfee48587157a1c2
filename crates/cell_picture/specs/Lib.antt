pub mod Escapes
pub mod Shapes
pub mod ShapeText
pub mod Picture
pub mod Laws

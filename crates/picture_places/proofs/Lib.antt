pub mod Weights
pub mod Scales
pub mod Fields
pub mod Anchors

pub mod FeatureFindings
pub mod NextPlace

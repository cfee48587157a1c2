pub mod FeatureFindings

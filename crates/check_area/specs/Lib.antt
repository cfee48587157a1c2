pub mod Sweeps
pub mod Parts
pub mod Lines
pub mod NearFeature

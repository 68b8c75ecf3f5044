pub mod Weights
pub mod Serving
pub mod BookWeights

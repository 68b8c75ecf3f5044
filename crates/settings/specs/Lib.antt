pub mod Settings
pub mod PaperWeights

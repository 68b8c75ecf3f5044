pub mod Outgoings
pub mod Later
pub mod BookWeights

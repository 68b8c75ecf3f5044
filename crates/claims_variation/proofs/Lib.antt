pub mod Passed
pub mod ExactMean
pub mod Finite
pub mod SpreadContract

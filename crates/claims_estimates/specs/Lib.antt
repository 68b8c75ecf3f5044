pub mod Estimates
pub mod Ranked

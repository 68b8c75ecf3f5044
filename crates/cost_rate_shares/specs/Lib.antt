pub mod Rates
pub mod Usable

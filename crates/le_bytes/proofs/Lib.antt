pub mod Ranges
pub mod Same

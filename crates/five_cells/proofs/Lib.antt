pub mod Fives
pub mod Least

pub mod Bounds
pub mod Squares

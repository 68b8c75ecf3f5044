pub mod Lengths
pub mod TestVectors

pub mod Decrements

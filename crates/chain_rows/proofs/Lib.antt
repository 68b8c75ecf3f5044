pub mod Onward
pub mod Repeats

pub mod AtMost
pub mod Each
pub mod Sums

pub mod AtMost
pub mod Each
pub mod Stored
pub mod Sums

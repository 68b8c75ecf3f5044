pub mod Discounting

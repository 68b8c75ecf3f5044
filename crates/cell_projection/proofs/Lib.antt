pub mod Ends
pub mod Years
pub mod Single
pub mod Records

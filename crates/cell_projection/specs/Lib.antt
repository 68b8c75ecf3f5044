pub mod Tables
pub mod Ends
pub mod Projected

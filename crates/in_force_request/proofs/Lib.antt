pub mod Records
pub mod Asked
pub mod Unlinked

pub mod YearTable
pub mod Discounted

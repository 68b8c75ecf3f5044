pub mod Below
pub mod Filled
pub mod YearSum

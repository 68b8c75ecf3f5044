pub mod Fund
pub mod Valued
pub mod Funds

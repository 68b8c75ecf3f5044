pub mod Divisors
pub mod Made

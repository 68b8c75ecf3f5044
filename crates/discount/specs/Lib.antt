pub mod Discount
pub mod Fraction

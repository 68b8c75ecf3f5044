pub mod Puts
pub mod Order

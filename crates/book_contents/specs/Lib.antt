pub mod Contents
pub mod Written
pub mod Limits
pub mod Reading
pub mod CallContracts

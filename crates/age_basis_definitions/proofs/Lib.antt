pub mod Places
pub mod Exact
pub mod Passes
pub mod ConvertContract

pub mod Adding
pub mod Serving

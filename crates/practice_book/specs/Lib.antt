pub mod Practice

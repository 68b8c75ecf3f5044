pub mod Deviation

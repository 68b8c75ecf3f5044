pub mod Curve

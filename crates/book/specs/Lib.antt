pub mod Layout
pub mod Check
pub mod Cells
pub mod Rules
pub mod CallContracts
pub mod Reading

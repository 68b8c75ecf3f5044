pub mod Figures
pub mod Ranges
pub mod Lengths
pub mod Refusals
pub mod ReportLengthContract
pub mod Unlinked

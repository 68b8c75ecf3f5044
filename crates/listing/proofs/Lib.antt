pub mod Refusals
pub mod ListingContract
pub mod TestVectors

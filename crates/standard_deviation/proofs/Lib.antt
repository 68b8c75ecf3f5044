pub mod DeviationContract
pub mod Unlinked

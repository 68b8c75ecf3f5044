pub mod InForceContract
pub mod Unlinked

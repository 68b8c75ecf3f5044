pub mod Joined
pub mod Half
pub mod Halves
pub mod FundsContract

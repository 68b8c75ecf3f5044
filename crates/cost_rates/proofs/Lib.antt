pub mod Shares
pub mod Replied
pub mod RatesContract

pub mod CashFlow

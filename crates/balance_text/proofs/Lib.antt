pub mod Signs
pub mod Balances

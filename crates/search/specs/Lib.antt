pub mod Rows
pub mod Arrivals
pub mod Walk
pub mod Letters

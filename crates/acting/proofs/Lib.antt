pub mod Refusals
pub mod Common

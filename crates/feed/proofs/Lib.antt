pub mod Cuts
pub mod Turns

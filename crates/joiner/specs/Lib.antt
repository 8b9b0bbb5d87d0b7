pub mod Joining
pub mod Parts

pub mod Levels
pub mod Starts

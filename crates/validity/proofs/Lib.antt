pub mod Contexts
pub mod Crossed
pub mod Kept

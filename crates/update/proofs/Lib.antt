pub mod Notes
pub mod Drawing
pub mod Marking
pub mod Cores

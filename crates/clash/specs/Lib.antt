pub mod Clash
pub mod Examples

pub mod Benches
pub mod Code

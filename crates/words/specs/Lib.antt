pub mod Bits
pub mod Pack

pub mod Bytes
pub mod UnitSizes
pub mod Kept
pub mod Fitness

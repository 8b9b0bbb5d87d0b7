pub mod Flags
pub mod Buffers
pub mod Held
pub mod Numbers
pub mod Slips
pub mod AllBelow
pub mod Sizes
pub mod Cross

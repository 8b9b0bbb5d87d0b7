pub mod Frames
pub mod Last
pub mod Prefixes
pub mod Releases

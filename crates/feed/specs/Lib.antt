pub mod Fed
pub mod Calls

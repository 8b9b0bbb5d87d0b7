pub mod Leaving
pub mod Locks

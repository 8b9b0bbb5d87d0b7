pub mod Facts
pub mod Places
pub mod Journals
pub mod Crossed
pub mod Fitting
pub mod Settled

pub mod Words
pub mod Picks
pub mod Chains

pub mod Words
pub mod Packs

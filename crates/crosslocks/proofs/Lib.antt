pub mod Sets
pub mod Putting

pub mod Sets
pub mod Visits
pub mod Paths

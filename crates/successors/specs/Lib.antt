pub mod Column
pub mod Successors

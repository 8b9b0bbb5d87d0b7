pub mod Integers
pub mod Adding
pub mod Counting
pub mod Walking
pub mod Examples

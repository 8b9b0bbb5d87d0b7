pub mod Runs
pub mod Demands
pub mod Joins
pub mod Merges
pub mod Logs
pub mod LogExamples

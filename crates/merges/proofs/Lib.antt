pub mod Merged
pub mod MergeExamples
pub mod CountLimit

pub mod Merge
pub mod MergeExamples

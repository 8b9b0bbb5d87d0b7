pub mod BrokenRules
pub mod ExclusiveRuns
pub mod SoftUnsafe
pub mod RuleExamples

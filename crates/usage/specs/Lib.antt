pub mod UsageRules
pub mod RuleExamples

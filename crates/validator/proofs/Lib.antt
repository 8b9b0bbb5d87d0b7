pub mod Fitness
pub mod Carried
pub mod Outcomes
pub mod Reports

pub mod OneCycle
pub mod Answers
pub mod Examples

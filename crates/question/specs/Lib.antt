pub mod Answer
pub mod Question

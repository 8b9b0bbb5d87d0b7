pub mod Entries
pub mod Keeping
pub mod Striking
pub mod Commits
pub mod Committing
pub mod Numbering

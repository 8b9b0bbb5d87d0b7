pub mod Feed
pub mod Code

pub mod Origins
pub mod MarkTests

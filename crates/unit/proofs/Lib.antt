pub mod Header
pub mod Units

pub mod Units
pub mod Parts

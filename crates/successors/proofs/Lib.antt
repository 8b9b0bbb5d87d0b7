pub mod Digits
pub mod Classes
pub mod Encoded

pub mod Layout
pub mod Fit
pub mod Decoding
pub mod Slip
pub mod Encoding

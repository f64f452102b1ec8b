pub mod Encoding
pub mod Readability
pub mod Copies

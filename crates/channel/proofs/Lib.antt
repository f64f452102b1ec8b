pub mod Bits
pub mod Turning

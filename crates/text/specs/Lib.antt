pub mod Lines
pub mod Number
pub mod Hex
pub mod Screen

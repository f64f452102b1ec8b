pub mod Comparing
pub mod Slots
pub mod Telling

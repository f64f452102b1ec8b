pub mod Page
pub mod Layout
pub mod Slots
pub mod Directory
pub mod Kept
pub mod Writes

pub mod Turns
pub mod Broadcasts
pub mod Sent
pub mod Screens

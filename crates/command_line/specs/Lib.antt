pub mod Damage
pub mod Input
pub mod Receive
pub mod Send
pub mod Words

pub mod Sending
pub mod Showing

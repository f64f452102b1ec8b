pub mod Reading
pub mod Code
pub mod Laws
pub mod Lines
pub mod Written

pub mod Size
pub mod Line
pub mod Reading
pub mod Damage
pub mod Laws

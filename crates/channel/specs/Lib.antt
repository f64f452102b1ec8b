pub mod Random
pub mod Air

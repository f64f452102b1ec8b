pub mod Hamming
pub mod Parity
pub mod Laws

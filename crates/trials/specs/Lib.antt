pub mod Text
pub mod Answers
pub mod Counts
pub mod Told
pub mod Same
pub mod AsTold

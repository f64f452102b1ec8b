pub mod Entry
pub mod Broadcast
pub mod Runs
pub mod Promises
pub mod Batch

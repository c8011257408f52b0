pub mod AdaptorData
pub mod Adaptors
pub mod Asks
pub mod Batched
pub mod Computes
pub mod Continues
pub mod Fetched
pub mod Finished
pub mod Plans
pub mod Refusals
mod Receives
pub mod Gathered
pub mod Runs
pub mod Starts
pub mod Waits

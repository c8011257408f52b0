pub mod Calls
pub mod ClaimSteps
pub mod Numbers
pub mod Seats
pub mod Weights
pub mod Wholes

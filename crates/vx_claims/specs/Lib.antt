pub mod Apart
pub mod ByHand
pub mod Claims
pub mod Limits
pub mod Rules
pub mod Views

pub mod Ordered
pub mod Spanned
pub mod Gives

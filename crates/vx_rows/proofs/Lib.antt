pub mod ReadRows
pub mod ByteLeaves
pub mod Renumbering
pub mod Givens
pub mod Each

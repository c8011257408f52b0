mod AlikeRows
pub mod LiftedRows
pub mod LogicRows
mod NumberRows
mod ScalarRows
pub mod SideRows
pub mod Somes
pub mod Steps
mod TestedRows
mod TextOrder

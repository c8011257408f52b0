pub mod ColumnarValues
pub mod Held
pub mod Kernels
pub mod Operators
pub mod Rows
pub mod Sides
pub mod TextSides

pub mod Bytes
pub mod Forms
pub mod Masks
pub mod Rows
pub mod Words

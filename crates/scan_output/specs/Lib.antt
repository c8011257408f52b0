pub mod FieldLeads
pub mod RowText
pub mod RowWriting
pub mod RunLines
pub mod SideBySide
pub mod Writing

pub mod Buffering
mod CellTexts
mod ColumnCrossing
mod ColumnLines
mod Leads
mod Ranges
mod RowTexts
mod RunLines
mod SideBySides
mod Strings
mod Writes

pub mod ColumnParts
pub mod LaidRuns
pub mod RunRows
pub mod Runs
pub mod StoredRows

pub mod BuiltRuns
mod ChosenRows
pub mod ColumnRows
mod CutRuns
mod FoundRuns
mod KeptRuns
pub mod LaidRuns
mod RunEnds
pub mod RunRows
pub mod SpreadRuns

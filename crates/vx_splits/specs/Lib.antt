pub mod Chunks
pub mod FirstRows
pub mod Limits
pub mod Spans
pub mod SplitRanges
pub mod Taken
pub mod Trimmed

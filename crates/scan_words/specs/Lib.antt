pub mod Answers
pub mod Bounds
pub mod Limits
pub mod Numbers
pub mod SplitRules
pub mod Grammar
pub mod Words
pub mod Lines

pub mod KeptTrees
pub mod ReadAnswers
pub mod SameFields

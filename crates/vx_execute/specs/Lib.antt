pub mod Executes
pub mod Validated
pub mod Validating

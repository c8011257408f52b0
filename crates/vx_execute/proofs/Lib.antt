mod Ascending
mod AskingAgain
mod Executing
mod ValidatedAsks
mod ValidatedEnds
mod ValidatedOutcome
mod ValidatingAll
mod ValidatingOne

mod Anys
mod AskShapes
mod Driving
mod DueFetches
pub mod Fetches
mod InFlightReads
mod KnownRanges
pub mod MoreFetches
mod Places
mod PolledFetches
mod RangeTables
mod Running
mod SoundEnds
mod SoundSteps
mod Submitting
mod TableSteps
mod TakenReads

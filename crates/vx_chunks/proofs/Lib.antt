pub mod AddedValues
pub mod AddedVisits
pub mod ChunkOutcomes
pub mod ChunkScanning
mod ChunkViews
mod EmptyChunks
pub mod FewerReads
pub mod HandedRuns
pub mod LastingCauses
pub mod LentSources
pub mod NothingGiven
pub mod OutsideReads
pub mod OwnValues
pub mod TakenReads
pub mod TakenWholes
pub mod Ways
pub mod WholeReads
mod WholeRuns

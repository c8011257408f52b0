mod Borrowed
pub mod BorrowerChunks
pub mod Certifying
pub mod CertifyingEach
mod Finishing
mod Higher
mod HinderedChunks
pub mod JoinedWorkers
pub mod Joining
mod LeafPairs
pub mod NewReasons
mod RefusedRuns
pub mod Taken
pub mod ValidatedCauses
mod WorkerCrossing
pub mod WorkerEnds
pub mod WorkerFacts
mod WorkerStates
mod Working

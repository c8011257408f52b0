-- What all workers of a scan share, and what a worker of it gives.
use Rattle.std.specs.Prelude.{◌≡◌, length}
use Rattle.std.specs.List.{AllByRecursion}
use Rattle.vx_claims.specs.Claims.{count_of}
use Rattle.vx_drive.specs.Plans.{ArePlans, IsChunkOf}
use Rattle.vx_workers.specs.declared.commons.Common.{Common}
use Rattle.vx_workers.specs.declared.worker_states.WorkerState.{WorkerState}
use Rattle.vx_workers.specs.Workers.{Worked}
use Rattle.vx_base.specs.Sources.{SourceState}

-- The plans can be run, each chunk lies inside the projection, and the claims are of all chunks.
pub record CanWork (common : Common) : Type 0 where
  pub plans : ArePlans common.plans.now
  pub chunks : AllByRecursion (IsChunkOf common.plans.now) common.chunks.now
  pub count : count_of common.claims.now ≡ length common.chunks.now

-- what a worker gives that shares them with others
abbrev pub WorkedOn : Common → WorkerState → SourceState → SourceState → Type 0
WorkedOn common worker before after = Worked common.shares common.claims.now common.plans.now common.chunks.now worker before after

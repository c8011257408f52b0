-- What all workers give together.
use Rattle.std.specs.Prelude.{◌≡◌, ◌≢◌, ℕ, zero, suc, ◌<◌, ◌≤◌, nat_lt, Bool, true, ◌⊎◌, List, [], ◌∷◌, length, Option, Some, None, IfSome, IsSomeAnd}
use Rattle.std.specs.List.{slice_get, All, AllByRecursion}
use Rattle.std.specs.List.Sorted.{IsNonDecreasingBy}
use Rattle.vx_rows.specs.Reads.{IsAmong}
use Rattle.vx_rows.specs.SegmentLeaves.{leaves_of}
use Rattle.vx_splits.specs.declared.selected_rows.SelectedRows.{SelectedRows}
use Rattle.vx_claims.specs.Apart.{times, times_over, AreApart, AreWhole}
use Rattle.vx_claims.specs.Claims.{count_of}
use Rattle.vx_claims.specs.Limits.{most_chunks}
use Rattle.vx_drive.specs.declared.errors.ScanError.TheVariants.{ReadFault}
use Rattle.vx_drive.specs.declared.plans.ScanPlans.{ScanPlans}
use Rattle.vx_drive.specs.Asks.{IsLeftClear, KeepsFaults, Lasts}
use Rattle.vx_drive.specs.Plans.{AreInOrder, IsChunkOf, bytes_of}
use Rattle.vx_chunks.specs.Lent.{EachSource, EachSourceBy, FirstSource, SomeSourceBy, WhereAllTell}
use Rattle.vx_chunks.specs.Outcomes.{told_by_all, Causes}
use Rattle.vx_workers.specs.declared.worker_states.ChunkError.{ChunkError}
use Rattle.vx_workers.specs.declared.worker_states.Piece.{Piece}
use Rattle.vx_workers.specs.Merges.{OpensWorkers, no_memory}
use Rattle.vx_workers.specs.Borrowers.{AsksForWholes, IsAsking}
use Rattle.vx_workers.specs.Workers.{HasDtype, HasItsRows, IsPieceOf, numbers_of, IsLast, FailsLast, RunsSource}
use Rattle.vx_execute.specs.declared.executes.Opened.{Opened}
use Rattle.vx_execute.specs.declared.outcomes.Outcome.{Outcome}
use Rattle.vx_execute.specs.Validating.{rerun_chunks, AsksAgain, IsRerun}
use Rattle.vx_base.specs.Masks.{Ascend}
use Rattle.vx_base.specs.Sources.{SourceState}

-- Which chunks can be run: each lies inside the plan, they are in order, and there are few enough to be claimed.
pub record CanRun (plans : ScanPlans) (chunks : List SelectedRows) : Type 0 where
  pub each : AllByRecursion (IsChunkOf plans) chunks
  pub ordered : AreInOrder chunks
  pub few : length chunks ≤ most_chunks

-- ---- before the fork

-- The claims are of so many chunks. There is a state for each worker, and room for the list of each.
pub record Opens (count workers : ℕ) (opened : Opened) : Type 0 where
  pub chunks : count_of opened.claims ≡ count
  pub worker_states : OpensWorkers opened.claims workers opened.worker_states.items opened.seat
  pub lists : opened.lists.items ≡ []
  pub room : workers ≤ opened.lists.cap

-- ---- the whole run

-- so many numbers, one after the other, from the first on
abbrev pub stretch : ℕ → ℕ → List ℕ
stretch first zero = []
stretch first (suc count) = first ∷ stretch (suc first) count

-- The chunk may have run with values that are shared, and lies no lower than the chunk that failed: it asks for whole
-- values.
abbrev pub MayHaveBorrowed : ScanPlans → List SelectedRows → Bool → Option ChunkError → ℕ → Type 0
MayHaveBorrowed plans chunks shares error x = (shares ≡ true) × IsSomeAnd error (λ one. one.chunk ≤ x) × IsAsking plans chunks x

-- Each of these chunks has a piece, or is the last of them: a worker stops at a chunk that fails, unless its run may rest
-- on a value that it borrowed.
abbrev pub StopsAtLast : ScanPlans → List SelectedRows → Bool → Option ChunkError → List Piece → List ℕ → Type 0
StopsAtLast plans chunks shares error pieces numbers =
    (x : ℕ) → IsAmong x numbers → (times x (numbers_of pieces) ≡ 1) ⊎ (IsLast x numbers ⊎ MayHaveBorrowed plans chunks shares error x)

-- A call on the source failed only where the last chunk that its worker claimed has no piece.
abbrev pub FaultsAtLast : List Piece → List ℕ → SourceState → SourceState → Type 0
FaultsAtLast pieces numbers before after =
    KeepsFaults before after ⊎ ((last : ℕ) × IsLast last numbers × (times last (numbers_of pieces) ≡ 0))

-- The first source was asked again: for values that no worker made, and for chunks that ran again. A call on it failed
-- only where that is the error, or want of memory is told of chunk 0.
pub record AskedAgain (plans : ScanPlans) (chunks : List SelectedRows) (reruns : List ℕ) (error : Option ChunkError) (before after : SourceState) : Type 0 where
  pub asks : AsksAgain plans chunks reruns before after
  pub faults : KeepsFaults before after ⊎ IsSomeAnd error (λ one. (one ≡ no_memory) ⊎ (one.error ≡ ReadFault))
  pub lasts : Lasts before after
  pub in_flight : IsLeftClear before after

-- The chunk, which asks for whole values, failed on the first source, once all workers were done, with its cause by the
-- file that all sources tell.
pub record FailsAgain (plans : ScanPlans) (chunks : List SelectedRows) (error : ChunkError) (sources : List SourceState) (before after : SourceState) : Type 0 where
  pub chunk : SelectedRows
  pub here : slice_get chunks error.chunk ≡ Some chunk
  pub asks : AsksForWholes plans chunk
  pub cause : Causes (told_by_all plans sources) plans [] chunk error.error before after

-- The chunk is the last that the worker of one of the sources claimed, and failed there; or, with several sources, it was
-- claimed and failed on the first one once all workers were done.
abbrev pub FailsOn : ScanPlans → List SelectedRows → ChunkError → List (List ℕ) → List SourceState → List SourceState → List SourceState → Type 0
FailsOn plans chunks error lists befores middles afters =
    SomeSourceBy (FailsLast plans chunks error) lists befores middles ⊎ ((1 < length befores) × (1 ≤ times_over error.chunk lists) × FirstSource (FailsAgain plans chunks error befores) middles afters)

-- So it failed, and each chunk below it has its piece.
pub record FailsLowest (plans : ScanPlans) (chunks : List SelectedRows) (error : ChunkError) (pieces : List Piece) (lists : List (List ℕ)) (befores middles afters : List SourceState) : Type 0 where
  pub fails : FailsOn plans chunks error lists befores middles afters
  pub lower : (x : ℕ) → x < error.chunk → times x (numbers_of pieces) ≡ 1

pub record Executed (plans : ScanPlans) (chunks : List SelectedRows) (outcome : Outcome) (befores afters : List SourceState) : Type 0 where
  -- no chunk was claimed twice, and where there is no error each was claimed
  pub apart : AreApart (length chunks) outcome.claimed.items
  pub whole : outcome.error ≡ None → AreWhole (length chunks) outcome.claimed.items
  -- each worker claimed ever higher chunks
  pub ascend : AllByRecursion Ascend outcome.claimed.items
  -- a piece is of a chunk that was claimed, and no chunk has two; they come in the order of the chunks
  pub claimed : (x : ℕ) → times x (numbers_of outcome.pieces.items) ≤ times_over x outcome.claimed.items
  pub sorted : IsNonDecreasingBy (λ (piece : Piece). piece.chunk) outcome.pieces.items
  -- where there is no error each chunk has one
  pub complete : outcome.error ≡ None → numbers_of outcome.pieces.items ≡ stretch 0 (length chunks)
  -- each piece is its chunk's by the file that all sources tell, whatever the cache has at entry or meanwhile
  pub content : WhereAllTell befores (λ file. All (IsPieceOf (leaves_of (bytes_of plans file)) plans chunks) outcome.pieces.items)
  pub dtype : All (HasDtype plans) outcome.pieces.items
  -- and has as many rows as its chunk selects, which read no list and no segment without a location, whatever the sources
  -- tell
  pub rows : All (HasItsRows plans chunks) outcome.pieces.items
  -- what the sources were when all workers were done
  pub middles : List SourceState
  -- the error is that of the lowest chunk that failed, with its cause
  pub cause : IfSome outcome.error (λ error. (error ≡ no_memory) ⊎ FailsLowest plans chunks error outcome.pieces.items outcome.claimed.items befores middles afters)
  -- each chunk of a worker has its piece, but for its last and those that lie no lower than the one that failed and ask
  -- for whole values; unless memory lacked outside of a run
  pub stops : outcome.error ≢ Some no_memory → AllByRecursion (StopsAtLast plans chunks (nat_lt 1 (length befores)) outcome.error outcome.pieces.items) outcome.claimed.items
  -- a call on a source failed only where its worker's last chunk has no piece, and none did where there is no error
  pub faults : EachSourceBy (FaultsAtLast outcome.pieces.items) outcome.claimed.items befores middles
  pub quiet : outcome.error ≡ None → EachSource KeepsFaults befores afters
  -- each source was asked for the chunks that its own worker claimed, and the first one again for what had to be tested
  pub sources : EachSourceBy (RunsSource (nat_lt 1 (length befores)) plans chunks) outcome.claimed.items befores middles
  pub again : FirstSource (AskedAgain plans chunks (rerun_chunks outcome.reruns.items) outcome.error) middles afters
  -- a chunk that ran again was claimed and stands there once, with two columns that differ, the second of which is right
  pub reruns : AllByRecursion (IsRerun plans chunks (told_by_all plans befores)) outcome.reruns.items
  pub reruns_once : (x : ℕ) → times x (rerun_chunks outcome.reruns.items) ≤ times_over x outcome.claimed.items
  -- a worker that is alone borrows nothing
  pub alone : length befores ≡ 1 → (afters ≡ middles) × (outcome.reruns.items ≡ [])

-- There was no memory for the workers: nothing was claimed or asked.
pub record NotStarted (outcome : Outcome) (befores afters : List SourceState) : Type 0 where
  pub claimed : outcome.claimed.items ≡ []
  pub pieces : outcome.pieces.items ≡ []
  pub error : outcome.error ≡ Some no_memory
  pub reruns : outcome.reruns.items ≡ []
  pub sources : afters ≡ befores

abbrev pub Executes : ScanPlans → List SelectedRows → Outcome → List SourceState → List SourceState → Type 0
Executes plans chunks outcome befores afters = Executed plans chunks outcome befores afters ⊎ NotStarted outcome befores afters

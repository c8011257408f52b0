-- What the chunks of a scan, run over all sources, give.
use Rattle.std.specs.Prelude.{◌≡◌, ℕ, ◌<◌, ◌≤◌, nat_lt, Bool, true, ◌⊎◌, List, [], ◌∷◌, length, map, take, Some, IsSomeAnd, Result, IfOk, IfErr}
use Rattle.std.specs.List.{slice_get, flat_map, AllByRecursion}
use Rattle.std.specs.Global.{Vec}
use Rattle.vx_base.specs.Columns.{ColumnData}
use Rattle.vx_base.specs.Masks.{Ascend, true_count}
use Rattle.vx_base.specs.Sources.{SourceState}
use Rattle.vx_claims.specs.Apart.{times, times_over, AreApart}
use Rattle.vx_rows.specs.Derivations.{Leaves}
use Rattle.vx_rows.specs.Reads.{IsAmong}
use Rattle.vx_rows.specs.SegmentLeaves.{leaves_of}
use Rattle.vx_splits.specs.declared.selected_rows.SelectedRows.{SelectedRows}
use Rattle.vx_drive.specs.declared.errors.ScanError.{ScanError}
use Rattle.vx_drive.specs.declared.errors.ScanError.TheVariants.{Memory}
use Rattle.vx_drive.specs.declared.plans.ScanPlans.{ScanPlans}
use Rattle.vx_drive.specs.Asks.{IsLeftClear, KeepsFaults, Lasts}
use Rattle.vx_drive.specs.Fetched.{AreDistinct}
use Rattle.vx_drive.specs.Plans.{bytes_of, projection_node}
use Rattle.vx_chunks.specs.ChunkRows.{IsPiece}
use Rattle.vx_chunks.specs.Lent.{EachSource, EachSourceBy, FirstSource, WhereAllTell}
use Rattle.vx_workers.specs.declared.worker_states.ChunkError.{ChunkError}
use Rattle.vx_workers.specs.Borrowers.{IsAsking}
use Rattle.vx_workers.specs.Reasons.{Reason, chunk_and_segment}
use Rattle.vx_workers.specs.Unhindered.{IsUnhindered, IsUnhinderedAt}
use Rattle.vx_workers.specs.Workers.{AsksReached, IsLast, RunsSource}
use Rattle.vx_execute.specs.Executes.{AskedAgain, FailsOn}
use Rattle.vx_execute.specs.Validating.{AsksAgain}

-- each batch is the piece of its chunk
abbrev pub AreBatches : Leaves → ScanPlans → List SelectedRows → List ColumnData → Type 0
AreBatches leaves plans [] [] = Unit {0}
AreBatches leaves plans (chunk ∷ chunks) (batch ∷ batches) = IsPiece leaves plans [] chunk batch × AreBatches leaves plans chunks batches
AreBatches leaves plans chunks batches = ⊥

-- the chunk has a piece
abbrev pub HasPiece : Leaves → ScanPlans → SelectedRows → Type 0
HasPiece leaves plans chunk = (column : ColumnData) × IsPiece leaves plans [] chunk column

-- What a worker asks its source for: the numbers of the chunks that it ran, and its reasons.
pub record Share : Type 0 where
  pub numbers : List ℕ
  pub reasons : List Reason

abbrev pub reasons_in : Share → List Reason
reasons_in share = share.reasons

-- Each source was asked on behalf of the chunks of its own worker, and the reasons of all workers together have no chunk
-- and segment twice. Then the first one was asked again: for values that no worker made, and for chunks that ran again,
-- each of these once. With one source nothing is asked again.
pub record AsksOver (plans : ScanPlans) (chunks : List SelectedRows) (befores afters : List SourceState) : Type 0 where
  pub shares : List Share
  pub middles : List SourceState
  pub each : EachSourceBy (λ (share : Share). AsksReached (nat_lt 1 (length befores)) plans chunks share.numbers share.reasons) shares befores middles
  pub once_a_chunk : AreDistinct (map chunk_and_segment (flat_map reasons_in shares))
  pub reruns : List ℕ
  pub reruns_once : (x : ℕ) → times x reruns ≤ 1
  pub again : FirstSource (AsksAgain plans chunks reruns) middles afters
  pub alone : length befores ≡ 1 → (afters ≡ middles) × (reruns ≡ [])

-- No call on the source failed, or the last of these chunks isn't before that place.
abbrev pub FaultsFrom : ℕ → List ℕ → SourceState → SourceState → Type 0
FaultsFrom place numbers before after = KeepsFaults before after ⊎ ((last : ℕ) × IsLast last numbers × (place ≤ last))

-- Each of these chunks has a piece, or is the last of them. Where values are shared, it may also lie no lower than that
-- place and ask for whole values.
abbrev pub HavePiecesButLast : Leaves → ScanPlans → List SelectedRows → Bool → ℕ → List ℕ → Type 0
HavePiecesButLast leaves plans chunks shares place numbers =
    (x : ℕ) → IsAmong x numbers → IsSomeAnd (slice_get chunks x) (HasPiece leaves plans) ⊎ (IsLast x numbers ⊎ ((shares ≡ true) × (place ≤ x) × IsAsking plans chunks x))

-- Of each of these chunks no row is hindered, or it is the last of them, whatever the sources tell.
abbrev pub AreUnhinderedButLast : ScanPlans → List SelectedRows → List ℕ → Type 0
AreUnhinderedButLast plans chunks numbers = (x : ℕ) → IsAmong x numbers → IsUnhinderedAt plans chunks x ⊎ IsLast x numbers

-- Of so many the workers claimed these, in ascending order and each one time at most: all before the place.
pub record ClaimedUpTo (count place : ℕ) (claims : List (List ℕ)) : Type 0 where
  pub apart : AreApart count claims
  pub ascend : AllByRecursion Ascend claims
  pub all_before : (x : ℕ) → x < place → times_over x claims ≡ 1

-- Each source was asked for the chunks of its worker, and the first one again for those that ran again, once all workers
-- were done; with one source nothing is asked again. While the workers ran, no call failed on a source whose worker's last
-- chunk is before the one that failed.
pub record AskedForChunks (plans : ScanPlans) (chunks : List SelectedRows) (failure : ChunkError) (claims : List (List ℕ)) (reruns : List ℕ) (befores middles afters : List SourceState) : Type 0 where
  pub ran : EachSourceBy (RunsSource (nat_lt 1 (length befores)) plans chunks) claims befores middles
  pub again : FirstSource (AskedAgain plans chunks reruns (Some failure)) middles afters
  pub alone : length befores ≡ 1 → (afters ≡ middles) × (reruns ≡ [])
  pub faults : EachSourceBy (FaultsFrom failure.chunk) claims befores middles

-- The chunks before that place have pieces, and so have those of a worker, but for its last and, with several sources, those
-- that aren't before that place and ask for whole values. Whatever the sources tell, none of those before it is hindered, nor
-- is one of a worker, but for its last.
pub record OthersHavePieces (plans : ScanPlans) (chunks : List SelectedRows) (place : ℕ) (claims : List (List ℕ)) (sources : List SourceState) : Type 0 where
  pub lower : WhereAllTell sources (λ file. AllByRecursion (HasPiece (leaves_of (bytes_of plans file)) plans) (take place chunks))
  pub stops : WhereAllTell sources (λ file. AllByRecursion (HavePiecesButLast (leaves_of (bytes_of plans file)) plans chunks (nat_lt 1 (length sources)) place) claims)
  pub unhindered : AllByRecursion (IsUnhindered plans) (take place chunks)
  pub ran_unhindered : AllByRecursion (AreUnhinderedButLast plans chunks) claims

-- The lowest chunk that failed, what came before it, and why it failed: on the source of the worker whose last chunk it was;
-- or, with several sources, on the first one once all workers were done.
pub record LowestFailure (plans : ScanPlans) (chunks : List SelectedRows) (error : ScanError) (befores afters : List SourceState) : Type 0 where
  pub place : ℕ
  pub chunk : SelectedRows
  pub here : slice_get chunks place ≡ Some chunk
  -- what the workers claimed, what the sources were when all workers were done, and which chunks ran again then
  pub claims : List (List ℕ)
  pub middles : List SourceState
  pub reruns : List ℕ
  pub claimed : ClaimedUpTo (length chunks) place claims
  pub asked : AskedForChunks plans chunks (record { chunk = place; error = error }) claims reruns befores middles afters
  pub others : OthersHavePieces plans chunks place claims befores
  pub cause : FailsOn plans chunks (record { chunk = place; error = error }) claims befores middles afters

pub record GivesBatches (plans : ScanPlans) (chunks : List SelectedRows) (result : Result (Vec ColumnData) ScanError) (befores afters : List SourceState) : Type 0 where
  -- the batches are the chunks' pieces by the file, in order
  pub content : IfOk result (λ batches. WhereAllTell befores (λ file. AreBatches (leaves_of (bytes_of plans file)) plans chunks batches.items))
  pub count : IfOk result (λ batches. length batches.items ≡ length chunks)
  pub dtype : IfOk result (λ batches. AllByRecursion (λ (batch : ColumnData). batch.dtype ≡ (projection_node plans).dtype) batches.items)
  -- each with as many rows as its chunk selects
  pub rows : IfOk result (λ batches. map (λ (batch : ColumnData). length batch.values) batches.items ≡ map (λ (chunk : SelectedRows). true_count chunk.mask) chunks)
  -- which read no list, and no segment without a location
  pub unhindered : IfOk result (λ batches. AllByRecursion (IsUnhindered plans) chunks)
  pub faults : IfOk result (λ batches. EachSource KeepsFaults befores afters)
  pub asks : AsksOver plans chunks befores afters
  -- the error is that of the lowest chunk that failed, with its cause
  pub cause : IfErr result (λ error. (error ≡ Memory) ⊎ LowestFailure plans chunks error befores afters)
  pub lasts : EachSource Lasts befores afters
  pub in_flight : EachSource IsLeftClear befores afters

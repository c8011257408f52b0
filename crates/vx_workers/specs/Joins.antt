-- What all workers give together, once they are joined.
use Rattle.std.specs.Prelude.{◌≡◌, ◌≢◌, ℕ, ◌+◌, ◌-◌, ◌<◌, ◌≤◌, nat_lt, true, ◌⊎◌, List, [], length, map, Some, None, IfSome}
use Rattle.std.specs.List.{All, AllByRecursion, sum_by}
use Rattle.std.specs.Global.{Vec}
use Rattle.vx_rows.specs.Reads.{IsAmong}
use Rattle.vx_rows.specs.SegmentLeaves.{Bytes, leaves_of}
use Rattle.vx_steps.specs.Held.{AreMade, AreTyped}
use Rattle.vx_steps.specs.Kept.{kept_at}
use Rattle.vx_splits.specs.declared.selected_rows.SelectedRows.{SelectedRows}
use Rattle.vx_claims.specs.declared.claims.Claims.{Claims}
use Rattle.vx_claims.specs.declared.claims.ClaimSeat.{ClaimSeat}
use Rattle.vx_claims.specs.Apart.{times, times_over, once_below, AreApart, AreWhole}
use Rattle.vx_claims.specs.Claims.{IsSeatOf, IsFresh, parts, was_told}
use Rattle.vx_claims.specs.Limits.{all_parts}
use Rattle.vx_drive.specs.declared.plans.ScanPlans.{ScanPlans}
use Rattle.vx_drive.specs.Asks.{KeepsFaults}
use Rattle.vx_drive.specs.Plans.{bytes_of}
use Rattle.vx_chunks.specs.Lent.{EachSource, EachSourceBy, SomeSourceBy, WhereAllTell}
use Rattle.vx_chunks.specs.Outcomes.{data_of}
use Rattle.vx_workers.specs.declared.joins.Joined.{Joined}
use Rattle.vx_workers.specs.declared.worker_states.ChunkError.{ChunkError}
use Rattle.vx_workers.specs.declared.worker_states.WorkerState.{WorkerState}
use Rattle.vx_workers.specs.Merges.{IsAtMost, no_memory, IsFrom, claimed_times, done_times, borrower_chunks_times, IsBorrowerOfWorker, IsMadeByWorker, IsOfWorker}
use Rattle.vx_workers.specs.Limits.{most_workers}
use Rattle.vx_workers.specs.Borrowers.{borrower_chunks, IsBorrower, IsBorrowerBy}
use Rattle.vx_workers.specs.Workers.{HasDtype, HasItsRows, IsPieceOf, numbers_of, IsLast, FailsLast, RunsSource}
use Rattle.vx_base.specs.Columns.{ColumnData}
use Rattle.vx_base.specs.Masks.{Ascend}
use Rattle.vx_base.specs.Sources.{SourceState}

-- ---- after the joins

-- The seats of all states are of these claims, and so is the first one, which has all other parts. There is room for
-- the list of each state.
pub record AreJoined (claims : Claims) (seat : ClaimSeat) (worker_states : List WorkerState) (lists : Vec (List ℕ)) : Type 0 where
  pub left : IsFresh claims (all_parts - length worker_states) seat
  pub few : length worker_states ≤ most_workers
  pub seats : All (λ (worker : WorkerState). IsSeatOf claims worker.seat) worker_states
  pub parts : All (λ (worker : WorkerState). parts worker.seat ≡ 1) worker_states
  pub empty : lists.items ≡ []
  pub room : length worker_states ≤ lists.cap

-- What was joined is what the states gave, and each chunk below the count was claimed by one of them at most.
pub record Joins (count : ℕ) (worker_states : List WorkerState) (joined : Joined) : Type 0 where
  pub lists : joined.claimed.items ≡ map (λ (worker : WorkerState). worker.claimed.items) worker_states
  pub once : (x : ℕ) → sum_by (claimed_times x) worker_states ≤ once_below count x
  -- a number is claimed only after those below it
  pub lower : (x y : ℕ) → 1 ≤ sum_by (claimed_times y) worker_states → x < y → sum_by (claimed_times x) worker_states ≡ 1
  pub whole : 0 < length worker_states → All (λ (worker : WorkerState). was_told worker.seat ≡ true) worker_states → (x : ℕ) → sum_by (claimed_times x) worker_states ≡ once_below count x
  -- all pieces of the states, unless there was no memory for them, and no others; and so of their borrowers
  pub pieces : joined.error ≢ Some no_memory → (x : ℕ) → times x (numbers_of joined.pieces.items) ≡ sum_by (done_times x) worker_states
  pub some_pieces : (x : ℕ) → times x (numbers_of joined.pieces.items) ≤ sum_by (done_times x) worker_states
  pub given : All (IsOfWorker worker_states) joined.pieces.items
  pub borrowers : joined.error ≢ Some no_memory → (x : ℕ) → times x (borrower_chunks joined.borrowers.items) ≡ sum_by (borrower_chunks_times x) worker_states
  pub some_borrowers : (x : ℕ) → times x (borrower_chunks joined.borrowers.items) ≤ sum_by (borrower_chunks_times x) worker_states
  pub given_borrowers : All (IsBorrowerOfWorker worker_states) joined.borrowers.items
  -- each whole value is one that a state made
  pub made : (n : ℕ) (column : ColumnData) → kept_at (data_of joined.made.items) n ≡ Some column → IsMadeByWorker worker_states n column
  pub lowest : All (λ (worker : WorkerState). IsAtMost joined.error worker.error) worker_states
  pub from : IsFrom worker_states joined.error

-- ---- what came of the chunks

-- how often a chunk has its piece, or ran with borrowed values
abbrev pub run_times : ℕ → Joined → ℕ
run_times x joined = times x (numbers_of joined.pieces.items) + times x (borrower_chunks joined.borrowers.items)

-- The chunk ran, or is the last of these: a worker stops at a chunk that fails.
abbrev pub RanOrLast : Joined → List ℕ → Type 0
RanOrLast joined numbers = (x : ℕ) → IsAmong x numbers → (run_times x joined ≡ 1) ⊎ IsLast x numbers

-- A call on the source failed only where the last chunk that its worker claimed did not run.
abbrev pub FaultsWhereNotRan : Joined → List ℕ → SourceState → SourceState → Type 0
FaultsWhereNotRan joined numbers before after = KeepsFaults before after ⊎ ((last : ℕ) × IsLast last numbers × (run_times last joined ≡ 0))

-- The chunk is the last that the worker of one of the sources claimed, and failed there. Each chunk below it ran.
pub record FailsFirst (plans : ScanPlans) (chunks : List SelectedRows) (error : ChunkError) (joined : Joined) (befores afters : List SourceState) : Type 0 where
  pub fails : SomeSourceBy (FailsLast plans chunks error) joined.claimed.items befores afters
  pub lower : (x : ℕ) → x < error.chunk → run_times x joined ≡ 1

-- What was joined is right by these bytes: pieces are their chunks', borrowers are what comes of the values that they
-- borrowed, and the values that workers made are whole.
pub record IsRightBy (plans : ScanPlans) (chunks : List SelectedRows) (joined : Joined) (bytes : Bytes) : Type 0 where
  pub pieces : All (IsPieceOf (leaves_of bytes) plans chunks) joined.pieces.items
  pub borrowers : All (IsBorrowerBy bytes plans chunks) joined.borrowers.items
  pub made : AreMade plans.table plans.row_offset (data_of joined.made.items) (leaves_of bytes)

pub record JoinedAll (plans : ScanPlans) (chunks : List SelectedRows) (joined : Joined) (befores afters : List SourceState) : Type 0 where
  -- no chunk was claimed twice, and where there is no error each was claimed
  pub apart : AreApart (length chunks) joined.claimed.items
  pub whole : joined.error ≡ None → AreWhole (length chunks) joined.claimed.items
  -- each worker claimed ever higher chunks
  pub ascend : AllByRecursion Ascend joined.claimed.items
  -- what ran was claimed; and without an error each chunk ran
  pub claimed : (x : ℕ) → run_times x joined ≤ times_over x joined.claimed.items
  pub complete : joined.error ≡ None → (x : ℕ) → run_times x joined ≡ once_below (length chunks) x
  -- right by the file that all sources tell
  pub right : WhereAllTell befores (λ file. IsRightBy plans chunks joined (bytes_of plans file))
  pub dtype : All (HasDtype plans) joined.pieces.items
  pub rows : All (HasItsRows plans chunks) joined.pieces.items
  pub borrowers : All (IsBorrower plans chunks) joined.borrowers.items
  pub typed : AreTyped plans.table (data_of joined.made.items)
  -- a worker that is alone borrows nothing
  pub alone : length befores ≡ 1 → joined.borrowers.items ≡ []
  -- the error is that of the lowest chunk that failed, with its cause
  pub cause : IfSome joined.error (λ error. (error ≡ no_memory) ⊎ FailsFirst plans chunks error joined befores afters)
  pub stops : joined.error ≢ Some no_memory → AllByRecursion (RanOrLast joined) joined.claimed.items
  pub faults : EachSourceBy (FaultsWhereNotRan joined) joined.claimed.items befores afters
  pub quiet : joined.error ≡ None → EachSource KeepsFaults befores afters
  -- each source was asked for the chunks that its own worker claimed
  pub sources : EachSourceBy (RunsSource (nat_lt 1 (length befores)) plans chunks) joined.claimed.items befores afters

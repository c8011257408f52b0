-- The states before the fork, and what is merged of them after the joins.
use Rattle.std.specs.Prelude.{◌≡◌, ℕ, ◌+◌, ◌-◌, ◌<◌, ◌≤◌, ◌≢◌, Bool, true, false, nat_lt, if◌then◌else◌, ◌⊎◌, List, ◌++◌, length, map, Option, Some, None}
use Rattle.std.specs.List.{All, Any, Contains, sum_by}
use Rattle.vx_steps.specs.declared.kept.KeptValue.{KeptValue}
use Rattle.vx_steps.specs.Kept.{kept_at}
use Rattle.vx_claims.specs.declared.claims.Claims.{Claims}
use Rattle.vx_claims.specs.declared.claims.ClaimSeat.{ClaimSeat}
use Rattle.vx_claims.specs.Apart.{times}
use Rattle.vx_claims.specs.Claims.{IsSeatOf, IsFresh, claimed, parts, was_told}
use Rattle.vx_claims.specs.Limits.{all_parts}
use Rattle.vx_drive.specs.declared.errors.ScanError.TheVariants.{Memory}
use Rattle.vx_chunks.specs.Outcomes.{data_of}
use Rattle.vx_workers.specs.declared.worker_states.ChunkError.{ChunkError}
use Rattle.vx_workers.specs.declared.joins.Joined.{Joined}
use Rattle.vx_workers.specs.declared.worker_states.WorkerState.{WorkerState}
use Rattle.vx_workers.specs.declared.worker_states.Borrower.{Borrower}
use Rattle.vx_workers.specs.declared.worker_states.Piece.{Piece}
use Rattle.vx_workers.specs.Borrowers.{borrower_chunks}
use Rattle.vx_workers.specs.Workers.{IsFreshWorker, numbers_of}
use Rattle.vx_base.specs.Columns.{ColumnData}

-- As many states as workers, and the seat from which theirs were split.
pub record OpensWorkers (claims : Claims) (count : ℕ) (worker_states : List WorkerState) (seat : ClaimSeat) : Type 0 where
  pub length : length worker_states ≡ count
  pub fresh : All (IsFreshWorker claims) worker_states
  pub left : IsFresh claims (all_parts - count) seat

-- ---- errors

-- the error of the lower chunk, the first where it is the same
abbrev pub lower_of : Option ChunkError → Option ChunkError → Option ChunkError
lower_of None other = other
lower_of (Some one) None = Some one
lower_of (Some one) (Some two) = if nat_lt two.chunk one.chunk then Some two else Some one

-- an error of no higher chunk than another
abbrev pub IsAtMost : Option ChunkError → Option ChunkError → Type 0
IsAtMost error None = Unit {0}
IsAtMost None (Some one) = ⊥
IsAtMost (Some error) (Some one) = error.chunk ≤ one.chunk

-- the number is below the chunk that failed
abbrev pub IsBelow : Option ChunkError → ℕ → Type 0
IsBelow None x = Unit {0}
IsBelow (Some error) x = x < error.chunk

-- want of memory outside of a chunk's run
abbrev pub no_memory : ChunkError
no_memory = record { chunk = 0; error = Memory }

-- an error is want of memory outside of a run, or that of a state
abbrev pub IsFrom : List WorkerState → Option ChunkError → Type 0
IsFrom worker_states None = Unit {0}
IsFrom worker_states (Some error) = (error ≡ no_memory) ⊎ Any (λ (worker : WorkerState). worker.error ≡ Some error) worker_states

-- ---- all states

-- how often a state claimed the chunk of a number, how often it has its piece, and how often it ran it with borrowed
-- values
abbrev pub claimed_times : ℕ → WorkerState → ℕ
claimed_times x worker = times x (claimed worker.seat)

abbrev pub done_times : ℕ → WorkerState → ℕ
done_times x worker = times x (numbers_of worker.pieces.items)

abbrev pub borrower_chunks_times : ℕ → WorkerState → ℕ
borrower_chunks_times x worker = times x (borrower_chunks worker.borrowers.items)

-- a piece that one of the states has
abbrev pub IsOfWorker : List WorkerState → Piece → Type 0
IsOfWorker worker_states piece = Any (λ (worker : WorkerState). Contains worker.pieces.items piece) worker_states

-- a chunk that one of them ran with borrowed values
abbrev pub IsBorrowerOfWorker : List WorkerState → Borrower → Type 0
IsBorrowerOfWorker worker_states borrower = Any (λ (worker : WorkerState). Contains worker.borrowers.items borrower) worker_states

-- the column is what one of them made for the plan
abbrev pub IsMadeByWorker : List WorkerState → ℕ → ColumnData → Type 0
IsMadeByWorker worker_states n column = Any (λ (worker : WorkerState). kept_at (data_of worker.handed.made.items) n ≡ Some column) worker_states

-- with more after it, or as it was
abbrev pub MoreOrSame : {X : Type 0} → List X → List X → List X → Type 0
MoreOrSame old more new = (new ≡ old ++ more) ⊎ (new ≡ old)

-- What was joined has more pieces, borrowers and whole values: all of these, where there was memory for them.
pub record TakesMore (enough : Bool) (more_pieces : List Piece) (more_borrowers : List Borrower) (more_made : List KeptValue) (old new : Joined) : Type 0 where
  pub claimed : new.claimed ≡ old.claimed
  pub error : new.error ≡ old.error
  pub pieces : MoreOrSame old.pieces.items more_pieces new.pieces.items
  pub borrowers : MoreOrSame old.borrowers.items more_borrowers new.borrowers.items
  pub made : MoreOrSame old.made.items more_made new.made.items
  pub all_pieces : enough ≡ true → new.pieces.items ≡ old.pieces.items ++ more_pieces
  pub all_borrowers : enough ≡ true → new.borrowers.items ≡ old.borrowers.items ++ more_borrowers

-- The seat has all that the states' seats had; the lists are theirs, the pieces and borrowers are theirs, and so are
-- the whole values; and so is the error, which is that of the lowest chunk.
pub record Merges (claims : Claims) (left : ℕ) (worker_states : List WorkerState) (seat : ClaimSeat) (joined : Joined) : Type 0 where
  pub own : IsSeatOf claims seat
  pub parts : parts seat ≡ left + sum_by (λ (worker : WorkerState). parts worker.seat) worker_states
  pub claimed : (x : ℕ) → times x (claimed seat) ≡ sum_by (claimed_times x) worker_states
  pub untold : was_told seat ≡ false → All (λ (worker : WorkerState). was_told worker.seat ≡ false) worker_states
  pub all_lists : joined.claimed.items ≡ map (λ (worker : WorkerState). worker.claimed.items) worker_states
  -- all pieces of the states, unless there was no memory for them, and no others; and so of their borrowers
  pub all_pieces : joined.error ≢ Some no_memory → (x : ℕ) → times x (numbers_of joined.pieces.items) ≡ sum_by (done_times x) worker_states
  pub some_pieces : (x : ℕ) → times x (numbers_of joined.pieces.items) ≤ sum_by (done_times x) worker_states
  pub given : All (IsOfWorker worker_states) joined.pieces.items
  pub all_borrowers : joined.error ≢ Some no_memory → (x : ℕ) → times x (borrower_chunks joined.borrowers.items) ≡ sum_by (borrower_chunks_times x) worker_states
  pub some_borrowers : (x : ℕ) → times x (borrower_chunks joined.borrowers.items) ≤ sum_by (borrower_chunks_times x) worker_states
  pub given_borrowers : All (IsBorrowerOfWorker worker_states) joined.borrowers.items
  -- each whole value is one that a state made
  pub made : (n : ℕ) (column : ColumnData) → kept_at (data_of joined.made.items) n ≡ Some column → IsMadeByWorker worker_states n column
  pub lowest : All (λ (worker : WorkerState). IsAtMost joined.error worker.error) worker_states
  pub from : IsFrom worker_states joined.error

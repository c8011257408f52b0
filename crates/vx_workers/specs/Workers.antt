-- What one worker gives.
use Rattle.std.specs.Prelude.{◌≡◌, ℕ, ◌+◌, ◌⊎◌, Bool, true, false, List, [], ◌∷◌, ◌++◌, length, map, Option, Some, None, IsSomeAnd}
use Rattle.std.specs.List.{slice_get, flat_map, All, AllByRecursion, AllPairs}
use Rattle.vx_rows.specs.Derivations.{Leaves}
use Rattle.vx_rows.specs.Reads.{IsAmong}
use Rattle.vx_rows.specs.SegmentLeaves.{leaves_of}
use Rattle.vx_steps.specs.Held.{AreMade, AreTyped}
use Rattle.vx_splits.specs.declared.selected_rows.SelectedRows.{SelectedRows}
use Rattle.vx_io.specs.Fetches.{asked_for}
use Rattle.vx_claims.specs.declared.claims.Claims.{Claims}
use Rattle.vx_claims.specs.Apart.{times}
use Rattle.vx_claims.specs.Claims.{IsSeatOf, IsFresh, claimed, parts, was_told}
use Rattle.vx_drive.specs.declared.errors.ScanError.TheVariants.{ReadFault, Memory}
use Rattle.vx_drive.specs.declared.plans.ScanPlans.{ScanPlans}
use Rattle.vx_drive.specs.Asks.{IsLeftClear, KeepsFaults, Lasts}
use Rattle.vx_drive.specs.Fetched.{AllLocated, AreDistinct, location_of}
use Rattle.vx_drive.specs.Plans.{projection_node, projection_plan, AreInOrder}
use Rattle.vx_chunks.specs.ChunkRows.{IsPiece}
use Rattle.vx_chunks.specs.LeafRows.{LeavesLieTogether}
use Rattle.vx_chunks.specs.Outcomes.{data_of, told_by, Causes}
use Rattle.vx_workers.specs.declared.worker_states.ChunkError.{ChunkError}
use Rattle.vx_workers.specs.declared.worker_states.WorkerState.{WorkerState}
use Rattle.vx_workers.specs.declared.worker_states.Piece.{Piece}
use Rattle.vx_workers.specs.Borrowers.{borrower_chunks, FaultsBorrowing, IsBorrower, IsBorrowerBy}
use Rattle.vx_workers.specs.Reasons.{Reason, segment_of, chunk_and_segment, take_and_segment, AreOfOneLeafOnlyBehind, IsReasonAmong}
use Rattle.vx_workers.specs.Unhindered.{IsUnhindered}
use Rattle.vx_base.specs.Masks.{Ascend, true_count}
use Rattle.vx_base.specs.Sources.{SourceState}

-- ---- the pieces

-- the chunks that have them, in their order
abbrev pub numbers_of : List Piece → List ℕ
numbers_of pieces = map (λ (piece : Piece). piece.chunk) pieces

-- the column is the piece of its chunk by the leaves
abbrev pub IsPieceOf : Leaves → ScanPlans → List SelectedRows → Piece → Type 0
IsPieceOf leaves plans chunks piece = IsSomeAnd (slice_get chunks piece.chunk) (λ chunk. IsPiece leaves plans [] chunk piece.column)

-- and has the projection's dtype
abbrev pub HasDtype : ScanPlans → Piece → Type 0
HasDtype plans piece = piece.column.dtype ≡ (projection_node plans).dtype

-- and as many rows as its chunk selects, none of which is hindered
abbrev pub HasItsRows : ScanPlans → List SelectedRows → Piece → Type 0
HasItsRows plans chunks piece = IsSomeAnd (slice_get chunks piece.chunk) (λ chunk. (length piece.column.values ≡ true_count chunk.mask) × IsUnhindered plans chunk)

-- ---- the source

-- The source was asked for the ranges of these reasons' segments, in this order, and for nothing else; each is the
-- reason of one of the chunks with these numbers. No chunk has two reasons to ask for one segment, and neither has any of
-- the takes. And where the chunks are in order and the leaves of the plan lie together, no two reasons are of one leaf,
-- unless the chunk of the first ended in a fault of rows with values that the worker borrowed: of a chunk that did, not
-- all that was asked for needs to have come. A worker that is alone has no such chunk.
pub record AsksReached (shares : Bool) (plans : ScanPlans) (chunks : List SelectedRows) (numbers : List ℕ) (reasons : List Reason) (before after : SourceState) : Type 0 where
  pub are : AllByRecursion (IsReasonAmong plans chunks) reasons
  pub own : AllByRecursion (λ (reason : Reason). IsAmong reason.chunk numbers) reasons
  pub located : AllLocated plans.locations.items (map segment_of reasons)
  pub asked : after.asked ≡ asked_for (map (location_of plans.locations.items) (map segment_of reasons)) before.asked
  pub once_a_chunk : AreDistinct (map chunk_and_segment reasons)
  pub faulted : List ℕ
  pub faulted_are : AllByRecursion (FaultsBorrowing shares plans chunks before) faulted
  pub once_a_leaf : AreInOrder chunks → LeavesLieTogether (projection_plan plans) → AllPairs (AreOfOneLeafOnlyBehind faulted) reasons
  pub once_a_take : AreDistinct (flat_map take_and_segment reasons)

-- What the worker of a source, which shares whole values with others or is alone, did to it: each ask is for a chunk that
-- it claimed.
pub record RunsSource (shares : Bool) (plans : ScanPlans) (chunks : List SelectedRows) (numbers : List ℕ) (before after : SourceState) : Type 0 where
  pub reasons : List Reason
  pub asks : AsksReached shares plans chunks numbers reasons before after
  pub lasts : Lasts before after
  pub in_flight : IsLeftClear before after

-- ---- how it ends

-- each of these chunks is done, or ran with borrowed values
abbrev pub AreDone : List ℕ → List ℕ → List ℕ → Type 0
AreDone numbers done borrowing = (x : ℕ) → times x numbers ≡ times x done + times x borrowing

-- the last of these numbers
abbrev pub IsLast : ℕ → List ℕ → Type 0
IsLast last numbers = (earlier : List ℕ) × (numbers ≡ earlier ++ last ∷ [])

-- The chunk of that number failed, with its cause. Where a call on the source failed, the error is that a read failed.
pub record Fails (plans : ScanPlans) (chunks : List SelectedRows) (error : ChunkError) (before after : SourceState) : Type 0 where
  pub chunk : SelectedRows
  pub here : slice_get chunks error.chunk ≡ Some chunk
  pub cause : Causes (told_by plans before) plans [] chunk error.error before after
  pub faults : KeepsFaults before after ⊎ (error.error ≡ ReadFault)

-- It is the last chunk that the worker of the source claimed, and failed there.
pub record FailsLast (plans : ScanPlans) (chunks : List SelectedRows) (error : ChunkError) (numbers : List ℕ) (before after : SourceState) : Type 0 where
  pub last : IsLast error.chunk numbers
  pub fails : Fails plans chunks error before after

-- The last chunk that was claimed failed, and those before it are done.
pub record StopsAt (plans : ScanPlans) (chunks : List SelectedRows) (error : ChunkError) (numbers done borrowing : List ℕ) (before after : SourceState) : Type 0 where
  pub earlier : List ℕ
  pub last : numbers ≡ earlier ++ error.chunk ∷ []
  pub all_done : AreDone earlier done borrowing
  pub fails : Fails plans chunks error before after

-- There was no memory to claim a further chunk.
pub record WantsMemory (error : ChunkError) (numbers done borrowing : List ℕ) : Type 0 where
  pub all : AreDone numbers done borrowing
  pub chunk : error.chunk ≡ 0
  pub memory : error.error ≡ Memory

-- without an error it was told that no chunk is left, and all that it claimed are done
abbrev pub Ends : ScanPlans → List SelectedRows → Option ChunkError → List ℕ → List ℕ → List ℕ → Bool → SourceState → SourceState → Type 0
Ends plans chunks None numbers done borrowing told before after = AreDone numbers done borrowing × (told ≡ true)
Ends plans chunks (Some error) numbers done borrowing told before after = StopsAt plans chunks error numbers done borrowing before after ⊎ WantsMemory error numbers done borrowing

-- ---- the worker

-- a state that did nothing yet
pub record IsFreshWorker (claims : Claims) (worker : WorkerState) : Type 0 where
  pub fresh : IsFresh claims 1 worker.seat
  pub claimed : worker.claimed.items ≡ []
  pub pieces : worker.pieces.items ≡ []
  pub borrowers : worker.borrowers.items ≡ []
  pub leaves : worker.handed.leaves.items ≡ []
  pub made : worker.handed.made.items ≡ []
  pub error : worker.error ≡ None

-- What one worker gives, which shares whole values with others, or is alone.
pub record Worked (shares : Bool) (claims : Claims) (plans : ScanPlans) (chunks : List SelectedRows) (worker : WorkerState) (before after : SourceState) : Type 0 where
  pub own : IsSeatOf claims worker.seat
  pub parts : parts worker.seat ≡ 1
  pub claimed : worker.claimed.items ≡ claimed worker.seat
  pub ascend : Ascend worker.claimed.items
  -- each piece is its chunk's by the file
  pub content : told_by plans before (λ bytes. All (IsPieceOf (leaves_of bytes) plans chunks) worker.pieces.items)
  pub dtype : All (HasDtype plans) worker.pieces.items
  pub rows : All (HasItsRows plans chunks) worker.pieces.items
  -- chunks that ran with borrowed values have what comes of these by the file; a worker that is alone has none
  pub borrowers : All (IsBorrower plans chunks) worker.borrowers.items
  pub borrowers_by : told_by plans before (λ bytes. All (IsBorrowerBy bytes plans chunks) worker.borrowers.items)
  pub alone : shares ≡ false → worker.borrowers.items ≡ []
  -- the whole values that it made are whole by the file
  pub made : AreTyped plans.table (data_of worker.handed.made.items)
  pub made_by : told_by plans before (λ bytes. AreMade plans.table plans.row_offset (data_of worker.handed.made.items) (leaves_of bytes))
  pub runs : RunsSource shares plans chunks worker.claimed.items before after
  pub faults : KeepsFaults before after ⊎ IsSomeAnd worker.error (λ error. error.error ≡ ReadFault)
  pub ends : Ends plans chunks worker.error worker.claimed.items (numbers_of worker.pieces.items) (borrower_chunks worker.borrowers.items) (was_told worker.seat) before after

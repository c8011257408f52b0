-- What comes of the chunks that ran with borrowed values, once it is known which of these are right.
use Rattle.std.specs.Prelude.{◌≡◌, ◌≢◌, ℕ, ◌≤◌, ◌⊎◌, List, [], ◌∷◌, map, Some, IfSome, IsSomeAnd}
use Rattle.std.specs.List.{slice_get, flat_map, All, AllByRecursion}
use Rattle.std.specs.List.Sorted.{IsNonDecreasingBy}
use Rattle.vx_rows.specs.Reads.{Way, directly, through, IsAmong}
use Rattle.vx_rows.specs.SegmentLeaves.{leaves_of}
use Rattle.vx_plan.specs.Plans.{plan_at}
use Rattle.vx_plan.specs.Refs.{number_of}
use Rattle.vx_steps.specs.Given.{whole_value}
use Rattle.vx_steps.specs.Offers.{IsForPlan}
use Rattle.vx_splits.specs.declared.selected_rows.SelectedRows.{SelectedRows}
use Rattle.vx_io.specs.Fetches.{asked_for}
use Rattle.vx_claims.specs.Apart.{times}
use Rattle.vx_drive.specs.declared.errors.ScanError.TheVariants.{ReadFault}
use Rattle.vx_drive.specs.declared.plans.ScanPlans.{ScanPlans}
use Rattle.vx_drive.specs.Asks.{IsLeftClear, KeepsFaults, Lasts}
use Rattle.vx_drive.specs.Fetched.{AllLocated, AreDistinct, location_of}
use Rattle.vx_drive.specs.Plans.{bytes_of}
use Rattle.vx_chunks.specs.Outcomes.{Causes, ChunkAsks, Claims}
use Rattle.vx_workers.specs.declared.joins.Joined.{Joined}
use Rattle.vx_workers.specs.declared.worker_states.ChunkError.{ChunkError}
use Rattle.vx_workers.specs.declared.worker_states.Piece.{Piece}
use Rattle.vx_workers.specs.Merges.{IsAtMost, IsBelow, no_memory}
use Rattle.vx_workers.specs.Joins.{IsRightBy, run_times}
use Rattle.vx_workers.specs.Borrowers.{borrower_chunks}
use Rattle.vx_workers.specs.Reasons.{Reason, segment_of, take_and_segment, IsReasonAmong}
use Rattle.vx_workers.specs.Workers.{HasDtype, HasItsRows, IsPieceOf, numbers_of}
use Rattle.vx_execute.specs.declared.outcomes.Outcome.{Outcome}
use Rattle.vx_execute.specs.declared.outcomes.Rerun.{Rerun}
use Rattle.vx_base.specs.Sources.{SourceState}

-- those of the file, where the source tells it and what was joined is right by it
abbrev pub told_right : ScanPlans → List SelectedRows → Joined → SourceState → Claims
told_right plans chunks joined source P = (file : List ℕ) → source.file ≡ Some file → IsRightBy plans chunks joined (bytes_of plans file) → P (bytes_of plans file)

-- ---- asks

-- which segment is asked for directly, and for which chunk: none, where it is read through a take
abbrev pub direct_by : Way → ℕ → ℕ → List (ℕ × ℕ)
direct_by directly chunk segment = (chunk, segment) ∷ []
direct_by (through take) chunk segment = []

abbrev pub direct_and_segment : Reason → List (ℕ × ℕ)
direct_and_segment reason = direct_by reason.way reason.chunk reason.segment

-- a chunk asks for a segment directly only where it is one of these
abbrev pub IsDirectAmong : List ℕ → Reason → Type 0
IsDirectAmong numbers reason = reason.way ≡ directly → IsAmong reason.chunk numbers

-- The source was asked again for the ranges of these reasons' segments, in this order, and for nothing else: directly for
-- chunks that ran again, each of them once for a segment; and through the values of takes, each of them once for a segment.
pub record AsksAgain (plans : ScanPlans) (chunks : List SelectedRows) (reruns : List ℕ) (before after : SourceState) : Type 0 where
  pub reasons : List Reason
  pub are : AllByRecursion (IsReasonAmong plans chunks) reasons
  pub direct : AllByRecursion (IsDirectAmong reruns) reasons
  pub located : AllLocated plans.locations.items (map segment_of reasons)
  pub asked : after.asked ≡ asked_for (map (location_of plans.locations.items) (map segment_of reasons)) before.asked
  pub once_a_chunk : AreDistinct (flat_map direct_and_segment reasons)
  pub once_a_take : AreDistinct (flat_map take_and_segment reasons)

-- ---- chunks that ran again

-- The chunk asks for the whole values of the plan; the two columns are of its dtype and rows and differ, and the second is
-- the whole values.
pub record IsRerun (plans : ScanPlans) (chunks : List SelectedRows) (Told : Claims) (rerun : Rerun) : Type 0 where
  pub chunk : SelectedRows
  pub here : slice_get chunks rerun.chunk ≡ Some chunk
  pub asks : ChunkAsks plans [] chunk (number_of rerun.node)
  pub borrowed : IsForPlan plans.table (record { node = number_of rerun.node; column = rerun.borrowed })
  pub made : IsForPlan plans.table (record { node = number_of rerun.node; column = rerun.made })
  pub differ : rerun.borrowed ≢ rerun.made
  pub whole : Told (λ bytes. whole_value (leaves_of bytes) plans.row_offset (plan_at plans.table (number_of rerun.node)) ≡ Some rerun.made.values)

abbrev pub rerun_chunks : List Rerun → List ℕ
rerun_chunks reruns = map (λ (rerun : Rerun). rerun.chunk) reruns

-- ---- all of it

-- A chunk that had run with borrowed values failed, once these were tested or it ran again, below the one that failed
-- before, if one did, with its cause.
pub record FailsValidated (plans : ScanPlans) (chunks : List SelectedRows) (joined : Joined) (error : ChunkError) (before after : SourceState) : Type 0 where
  pub chunk : SelectedRows
  pub here : slice_get chunks error.chunk ≡ Some chunk
  pub borrowing : 1 ≤ times error.chunk (borrower_chunks joined.borrowers.items)
  pub below : IsBelow joined.error error.chunk
  pub cause : Causes (told_right plans chunks joined before) plans [] chunk error.error before after

pub record Validates (plans : ScanPlans) (chunks : List SelectedRows) (joined : Joined) (outcome : Outcome) (before after : SourceState) : Type 0 where
  pub lists : outcome.claimed.items ≡ joined.claimed.items
  -- pieces are of chunks that ran: all that were joined, and below the chunk that failed of each chunk
  pub some_pieces : (x : ℕ) → times x (numbers_of outcome.pieces.items) ≤ run_times x joined
  pub old_pieces : outcome.error ≢ Some no_memory → (x : ℕ) → times x (numbers_of joined.pieces.items) ≤ times x (numbers_of outcome.pieces.items)
  pub all_pieces : outcome.error ≢ Some no_memory → (x : ℕ) → IsBelow outcome.error x → times x (numbers_of outcome.pieces.items) ≡ run_times x joined
  pub sorted : IsNonDecreasingBy (λ (piece : Piece). piece.chunk) outcome.pieces.items
  -- they are right by the file if what was joined is, whatever was borrowed
  pub content : told_right plans chunks joined before (λ bytes. All (IsPieceOf (leaves_of bytes) plans chunks) outcome.pieces.items)
  pub dtype : All (HasDtype plans) joined.pieces.items → All (HasDtype plans) outcome.pieces.items
  pub rows : All (HasItsRows plans chunks) joined.pieces.items → All (HasItsRows plans chunks) outcome.pieces.items
  -- the error is the one that was joined, or that of a lower chunk which failed now
  pub cause : IfSome outcome.error (λ error. (error ≡ no_memory) ⊎ ((joined.error ≡ Some error) ⊎ FailsValidated plans chunks joined error before after))
  pub lowest : IsAtMost outcome.error joined.error
  pub faults : KeepsFaults before after ⊎ IsSomeAnd outcome.error (λ error. (error ≡ no_memory) ⊎ (error.error ≡ ReadFault))
  -- what ran again has the two columns that differ, and stands there once
  pub reruns : AllByRecursion (IsRerun plans chunks (told_right plans chunks joined before)) outcome.reruns.items
  pub reruns_once : (x : ℕ) → times x (rerun_chunks outcome.reruns.items) ≤ times x (borrower_chunks joined.borrowers.items)
  pub again : AsksAgain plans chunks (rerun_chunks outcome.reruns.items) before after
  -- where no chunk ran with borrowed values, the source is left alone
  pub none : joined.borrowers.items ≡ [] → (after ≡ before) × (outcome.reruns.items ≡ [])
  pub lasts : Lasts before after
  pub in_flight : IsLeftClear before after

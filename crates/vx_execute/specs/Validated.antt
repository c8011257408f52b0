-- One chunk after another that ran with borrowed values, and what becomes of it.
use Rattle.std.specs.Prelude.{◌≡◌, ◌≢◌, ℕ, ◌+◌, ◌≤◌, ◌⊎◌, Bool, true, false, List, [], ◌∷◌, ◌++◌, length, map, Option, None, Some, Result, Ok, Err, IfOk, IfErr, IsSomeAnd}
use Rattle.std.specs.declared.alloc.AllocError.{AllocError}
use Rattle.std.specs.List.{slice_get, flat_map, All, AllByRecursion}
use Rattle.std.specs.List.Sorted.{IsNonDecreasingBy, IsPermutation}
use Rattle.vx_rows.specs.Reads.{through}
use Rattle.vx_rows.specs.SegmentLeaves.{Bytes, leaves_of}
use Rattle.vx_plan.specs.Refs.{number_of}
use Rattle.vx_plan.specs.Plans.{plan_at}
use Rattle.vx_steps.specs.Given.{whole_value}
use Rattle.vx_steps.specs.Held.{AreMade, AreTyped}
use Rattle.vx_steps.specs.Kept.{kept_at, IsKept}
use Rattle.vx_steps.specs.KeptData.{Kept}
use Rattle.vx_steps.specs.Offers.{IsForPlan}
use Rattle.vx_steps.specs.Rows.{SomeRow}
use Rattle.vx_splits.specs.declared.selected_rows.SelectedRows.{SelectedRows}
use Rattle.vx_io.specs.Fetches.{asked_for}
use Rattle.vx_claims.specs.Apart.{times}
use Rattle.vx_drive.specs.declared.errors.ScanError.{ScanError}
use Rattle.vx_drive.specs.declared.errors.ScanError.TheVariants.{ReadFault, Memory}
use Rattle.vx_drive.specs.declared.plans.ScanPlans.{ScanPlans}
use Rattle.vx_drive.specs.Asks.{IsLeftClear, KeepsFaults, Lasts, TellsFaults}
use Rattle.vx_drive.specs.Fetched.{AllLocated, AreDistinct, location_of}
use Rattle.vx_drive.specs.Plans.{bytes_of, projection_node, projection_plan}
use Rattle.vx_chunks.specs.ChunkRows.{ChunkReaches}
use Rattle.vx_chunks.specs.Outcomes.{data_of, Causes, ChunkAsks, Claims, GivesPiece}
use Rattle.vx_chunks.specs.Ways.{ReadsBy, whole_number}
use Rattle.vx_workers.specs.declared.worker_states.ChunkError.{ChunkError}
use Rattle.vx_workers.specs.declared.worker_states.Borrower.{Borrower}
use Rattle.vx_workers.specs.declared.worker_states.Piece.{Piece}
use Rattle.vx_workers.specs.Merges.{IsAtMost, IsBelow}
use Rattle.vx_workers.specs.Borrowers.{borrower_chunks, AreBorrowed, IsBorrowerBy, IsResultBy, RestsOnValues}
use Rattle.vx_workers.specs.Reasons.{Reason, read_for, segment_of, take_and_segment}
use Rattle.vx_workers.specs.Workers.{HasDtype, HasItsRows, IsPieceOf, numbers_of}
use Rattle.vx_execute.specs.declared.outcomes.Rerun.{Rerun}
use Rattle.vx_execute.specs.declared.rerunning.Checked.{Checked}
use Rattle.vx_execute.specs.declared.validating.Validated.{Validated}
use Rattle.vx_execute.specs.Validating.{direct_and_segment, IsDirectAmong, AsksAgain, IsRerun, rerun_chunks}
use Rattle.vx_base.specs.Columns.{ColumnData}
use Rattle.vx_base.specs.Masks.{true_count}
use Rattle.vx_base.specs.Sources.{SourceState}

-- ---- asks for one chunk

-- a selected row of the chunk of that number reads the leaf that way, and reaches the segment
pub record IsReasonOf (plans : ScanPlans) (chosen : SelectedRows) (number : ℕ) (reason : Reason) : Type 0 where
  pub place : reason.chunk ≡ number
  pub reads : SomeRow (ReadsBy reason.way (read_for reason) (projection_plan plans)) chosen.scope.rows.start chosen.mask
  pub reaches : ChunkReaches plans chosen reason.segment

-- the whole values through which it is read, if it is, are not among these; or they are
abbrev pub IsThroughLacking : ScanPlans → List Kept → Reason → Type 0
IsThroughLacking plans right reason = (take : ℕ) → reason.way ≡ through take → kept_at right (whole_number (plan_at plans.table take)) ≡ None

abbrev pub IsThroughKept : ScanPlans → List Kept → Reason → Type 0
IsThroughKept plans right reason = (take : ℕ) → reason.way ≡ through take → IsKept right (whole_number (plan_at plans.table take))

-- The source was asked for the ranges of these reasons' segments, in this order, and for nothing else. Each is one of the
-- chunk: through whole values that lacked, and were there afterwards unless the chunk failed; or directly, if the chunk ran
-- again. No segment was asked for twice directly, or twice through a take.
pub record AsksForOne (plans : ScanPlans) (chosen : SelectedRows) (number : ℕ) (old new : List Kept) (reruns : List ℕ) (result : Result ColumnData ScanError) (before after : SourceState) : Type 0 where
  pub reasons : List Reason
  pub are : AllByRecursion (IsReasonOf plans chosen number) reasons
  pub lacking : AllByRecursion (IsThroughLacking plans old) reasons
  pub kept : IfOk result (λ column. AllByRecursion (IsThroughKept plans new) reasons)
  pub direct : AllByRecursion (IsDirectAmong reruns) reasons
  pub located : AllLocated plans.locations.items (map segment_of reasons)
  pub asked : after.asked ≡ asked_for (map (location_of plans.locations.items) (map segment_of reasons)) before.asked
  pub once_a_chunk : AreDistinct (flat_map direct_and_segment reasons)
  pub once_a_take : AreDistinct (flat_map take_and_segment reasons)

-- ---- one chunk

-- The chunk asks for the values that it borrowed. A column has its shape, and an error may come of a value.
pub record IsBorrowerOf (plans : ScanPlans) (chosen : SelectedRows) (borrower : Borrower) : Type 0 where
  pub borrowed_are : AreBorrowed plans chosen (data_of borrower.borrowed.items)
  pub dtype : IfOk borrower.result (λ column. column.dtype ≡ (projection_node plans).dtype)
  pub rows : IfOk borrower.result (λ column. length column.values ≡ true_count chosen.mask)
  pub rests : IfErr borrower.result RestsOnValues

-- what is claimed of the bytes of the file, where the source tells it, the values are right by it, and the borrower is
-- what came of the values that it borrowed
abbrev pub told_of_borrower : ScanPlans → SelectedRows → List Kept → Borrower → SourceState → Claims
told_of_borrower plans chosen right borrower source P =
    (file : List ℕ) → source.file ≡ Some file → AreMade plans.table plans.row_offset right (leaves_of (bytes_of plans file)) → IsResultBy (bytes_of plans file) plans (data_of borrower.borrowed.items) chosen borrower.result → P (bytes_of plans file)

-- The chunk of that number is listed with the borrowed value at the place, and with the one that is right and another.
pub record IsListed (borrowed right : List Kept) (place number : ℕ) (rerun : Rerun) : Type 0 where
  pub chunk : rerun.chunk ≡ number
  pub borrowed_is : slice_get borrowed place ≡ Some (record { node = number_of rerun.node; column = rerun.borrowed })
  pub made : kept_at right (number_of rerun.node) ≡ Some rerun.made
  pub differ : rerun.borrowed ≢ rerun.made

-- it stands behind the others, unless memory lacked
abbrev pub ListsRerun : Borrower → ℕ → List Kept → Result (Unit {0}) AllocError → List Rerun → List Rerun → Type 0
ListsRerun borrower place right (Ok done) old new = (rerun : Rerun) × IsListed (data_of borrower.borrowed.items) right place borrower.chunk rerun × (new ≡ old ++ rerun ∷ [])
ListsRerun borrower place right (Err lack) old new = new ≡ old

-- The chunk of that number asks for the whole values of the plan; the two columns are of its dtype and rows and differ, and
-- the second is the whole values.
pub record IsRerunOf (plans : ScanPlans) (chosen : SelectedRows) (number : ℕ) (Told : Claims) (rerun : Rerun) : Type 0 where
  pub chunk : rerun.chunk ≡ number
  pub asks : ChunkAsks plans [] chosen (number_of rerun.node)
  pub borrowed : IsForPlan plans.table (record { node = number_of rerun.node; column = rerun.borrowed })
  pub made : IsForPlan plans.table (record { node = number_of rerun.node; column = rerun.made })
  pub differ : rerun.borrowed ≢ rerun.made
  pub whole : Told (λ bytes. whole_value (leaves_of bytes) plans.row_offset (plan_at plans.table (number_of rerun.node)) ≡ Some rerun.made.values)

-- The result is the chunk's piece, or an error with its cause. Whole values that are right stay so, and there may be more.
-- Where the chunk ran again, it is listed.
pub record ValidatesOne (plans : ScanPlans) (chosen : SelectedRows) (borrower : Borrower) (old new : List Kept) (reruns_old reruns_new : List Rerun) (result : Result ColumnData ScanError) (before after : SourceState) : Type 0 where
  pub typed : AreTyped plans.table new
  pub grows : (n : ℕ) (column : ColumnData) → kept_at old n ≡ Some column → kept_at new n ≡ Some column
  pub right : told_of_borrower plans chosen old borrower before (λ bytes. AreMade plans.table plans.row_offset new (leaves_of bytes))
  pub content : IfOk result (GivesPiece (told_of_borrower plans chosen old borrower before) plans [] chosen)
  pub cause : IfErr result (λ error. Causes (told_of_borrower plans chosen old borrower before) plans [] chosen error before after)
  pub reran : (reruns_new ≡ reruns_old) ⊎ ((rerun : Rerun) × IsRerunOf plans chosen borrower.chunk (told_of_borrower plans chosen old borrower before) rerun × (reruns_new ≡ reruns_old ++ rerun ∷ []))
  pub asks : AsksForOne plans chosen borrower.chunk old new (rerun_chunks reruns_new) result before after
  pub faults : TellsFaults result before after
  pub lasts : Lasts before after
  pub in_flight : IsLeftClear before after

-- so it does, by what was made sure of before it and after it
abbrev pub ChecksOne : ScanPlans → SelectedRows → Borrower → Checked → Checked → Result ColumnData ScanError → SourceState → SourceState → Type 0
ChecksOne plans chosen borrower old new result before after = ValidatesOne plans chosen borrower (data_of old.right.items) (data_of new.right.items) old.reruns.items new.reruns.items result before after

-- the piece stands behind the others, or there is none, with the error of the result or for want of memory
abbrev pub KeepsPiece : ℕ → Result ColumnData ScanError → Result (Unit {0}) ScanError → List Piece → List Piece → Type 0
KeepsPiece number result (Ok done) old new = (column : ColumnData) × (result ≡ Ok column) × (new ≡ old ++ record { chunk = number; column = column } ∷ [])
KeepsPiece number result (Err error) old new = (new ≡ old) × ((result ≡ Err error) ⊎ ((error ≡ Memory) × ((column : ColumnData) × (result ≡ Ok column))))

-- ---- all of them

-- What was joined is right by these bytes.
pub record AreSound (plans : ScanPlans) (chunks : List SelectedRows) (pieces : List Piece) (borrowers : List Borrower) (right : List Kept) (bytes : Bytes) : Type 0 where
  pub pieces_are : All (IsPieceOf (leaves_of bytes) plans chunks) pieces
  pub borrowers_are : All (IsBorrowerBy bytes plans chunks) borrowers
  pub right_are : AreMade plans.table plans.row_offset right (leaves_of bytes)

-- what is claimed of the bytes of the file, where the source tells it and what was joined is right by it
abbrev pub told_sound : ScanPlans → List SelectedRows → List Borrower → Validated → SourceState → Claims
told_sound plans chunks borrowers validated source P =
    (file : List ℕ) → source.file ≡ Some file → AreSound plans chunks validated.pieces.items borrowers (data_of validated.checked.right.items) (bytes_of plans file) → P (bytes_of plans file)

-- A chunk of these failed, below the one that failed before, if one did, with its cause.
pub record FailsNow (plans : ScanPlans) (chunks : List SelectedRows) (borrowers : List Borrower) (Told : Claims) (old : Option ChunkError) (error : ChunkError) (before after : SourceState) : Type 0 where
  pub chunk : SelectedRows
  pub here : slice_get chunks error.chunk ≡ Some chunk
  pub borrowing : 1 ≤ times error.chunk (borrower_chunks borrowers)
  pub below : IsBelow old error.chunk
  pub cause : Causes Told plans [] chunk error.error before after

-- The borrowers are validated in their order, up to the first that fails, or that lies no lower than the error.
pub record ValidatesAll (plans : ScanPlans) (chunks : List SelectedRows) (borrowers : List Borrower) (old new : Validated) (before after : SourceState) : Type 0 where
  pub some_pieces : (x : ℕ) → times x (numbers_of new.pieces.items) ≤ times x (numbers_of old.pieces.items) + times x (borrower_chunks borrowers)
  pub old_pieces : (x : ℕ) → times x (numbers_of old.pieces.items) ≤ times x (numbers_of new.pieces.items)
  pub all_pieces : (x : ℕ) → IsBelow new.error x → times x (numbers_of new.pieces.items) ≡ times x (numbers_of old.pieces.items) + times x (borrower_chunks borrowers)
  pub content : told_sound plans chunks borrowers old before (λ bytes. All (IsPieceOf (leaves_of bytes) plans chunks) new.pieces.items)
  pub dtype : All (HasDtype plans) old.pieces.items → All (HasDtype plans) new.pieces.items
  pub rows : All (HasItsRows plans chunks) old.pieces.items → All (HasItsRows plans chunks) new.pieces.items
  pub cause : (new.error ≡ old.error) ⊎ IsSomeAnd new.error (λ error. FailsNow plans chunks borrowers (told_sound plans chunks borrowers old before) old.error error before after)
  pub lowest : IsAtMost new.error old.error
  pub faults : KeepsFaults before after ⊎ IsSomeAnd new.error (λ error. error.error ≡ ReadFault)
  pub reruns : AllByRecursion (IsRerun plans chunks (told_sound plans chunks borrowers old before)) new.checked.reruns.items
  pub reruns_once : (x : ℕ) → times x (rerun_chunks new.checked.reruns.items) ≤ times x (borrower_chunks borrowers)
  pub again : AsksAgain plans chunks (rerun_chunks new.checked.reruns.items) before after
  pub none : borrowers ≡ [] → (after ≡ before) × (new.checked.reruns.items ≡ [])
  pub lasts : Lasts before after
  pub in_flight : IsLeftClear before after

-- the number is not below that of the chunk that failed
abbrev pub IsNotBelow : Option ChunkError → ℕ → Type 0
IsNotBelow error number = IsSomeAnd error (λ one. one.chunk ≤ number)

-- ---- the order

-- those that were there in another order, or none where memory lacked
abbrev pub Sorts : Bool → List Piece → List Piece → Type 0
Sorts true old new = IsPermutation old new
Sorts false old new = new ≡ []

abbrev pub SortsBorrowers : Bool → List Borrower → List Borrower → Type 0
SortsBorrowers true old new = IsPermutation old new × IsNonDecreasingBy (λ (borrower : Borrower). borrower.chunk) new
SortsBorrowers false old new = Unit {0}

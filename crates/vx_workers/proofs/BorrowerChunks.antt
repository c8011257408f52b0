-- The pieces of one worker, and its chunks that ran with borrowed values, with one chunk more.
use Rattle.std.proofs.Common.{◌≡◌, ◌≢◌, ℕ, ◌⊎◌, inl, inr, ⊎_elim, true, List, [], ◌∷◌, ◌++◌, Some, None, Result, Ok, Err, length, refl, sym, ◌∙◌, ap, subst}
use Rattle.std.specs.Prelude.{Bool, IfErr, IfOk, IsSomeAnd, Option}
use Rattle.std.specs.List.{slice_get, All, AllByRecursion}
use Rattle.std.specs.Global.{Vec}
use Rattle.std.proofs.lemmas.List.Elements.{All-nil, All-push}
use Rattle.vx_rows.specs.SegmentLeaves.{leaves_of}
use Rattle.vx_plan.specs.Refs.{number_of}
use Rattle.vx_steps.specs.Kept.{kept_data, IsKept}
use Rattle.vx_steps.specs.KeptData.{Kept}
use Rattle.vx_steps.specs.Offers.{IsForPlan, Keeps}
use Rattle.vx_steps.specs.declared.kept.KeptValue.{KeptValue}
use Rattle.vx_splits.specs.declared.selected_rows.SelectedRows.{SelectedRows}
use Rattle.vx_drive.specs.declared.errors.ScanError.{ScanError}
use Rattle.vx_drive.specs.declared.errors.ScanError.TheVariants.{BadProjection, OffsetOverflow, OutOfRange, Unsupported, NoLocation, ReadFault, Stalled, BadSegment, BadCode, EvalFault, Memory}
use Rattle.vx_drive.specs.declared.plans.ScanPlans.{ScanPlans}
use Rattle.vx_drive.specs.Asks.{Lasts}
use Rattle.vx_drive.specs.Plans.{bytes_of, projection_node}
use Rattle.vx_chunks.specs.declared.outcomes.HandedOn.{HandedOn}
use Rattle.vx_chunks.specs.declared.outcomes.Ran.{Ran}
use Rattle.vx_chunks.specs.ChunkRows.{ChunkFaultsAt, ChunkReadsBadCode, IsPiece}
use Rattle.vx_chunks.specs.Outcomes.{data_of, told_by, told_on, AreAllThere, Causes, ChunkAsks, GivesPiece, RunsGiven, RunsOn}
use Rattle.vx_chunks.proofs.ChunkOutcomes.{there_as}
use Rattle.vx_chunks.proofs.TakenWholes.{asks_same}
use Rattle.vx_workers.specs.declared.worker_states.Borrower.{Borrower}
use Rattle.vx_workers.specs.declared.worker_states.Piece.{Piece}
use Rattle.vx_workers.specs.Borrowers.{AreBorrowed, AsksForWholes, FaultsBorrowing, IsAsking, IsBorrower, IsBorrowerBy, IsResultBy, RestsOnValues}
use Rattle.vx_workers.specs.Unhindered.{IsUnhindered}
use Rattle.vx_workers.specs.Workers.{HasDtype, HasItsRows, IsPieceOf}
use Rattle.vx_workers.proofs.Working.{IsHanded, IsSure, told_before}
use Rattle.vx_base.specs.Columns.{ColumnData}
use Rattle.vx_base.specs.Masks.{true_count}
use Rattle.vx_base.specs.Sources.{SourceState}

-- ---- the values that count

-- of a list of which each is so, all count
all_keep : {X : Type 0} (P : X → Type 0) (xs kept : List X) → AllByRecursion P xs → Keeps P xs kept → kept ≡ xs
all_keep P [] kept all keeps = keeps
all_keep P (x ∷ xs) kept all (inl (holds, (rest, is, keeps))) = is ∙ ap (λ ks. x ∷ ks) (all_keep P xs rest all.1 keeps)
all_keep P (x ∷ xs) kept all (inr (not, keeps)) = absurd (not all.0)

-- where no error but one that may come of values is there, those that fit count
fitting_all : (plans : ScanPlans) (given fitting : List Kept) (piece : Result ColumnData ScanError) → AllByRecursion (IsForPlan plans.table) given → IfErr piece RestsOnValues → Keeps (IsForPlan plans.table) given fitting ⊎ ((piece ≡ Err Memory) × (fitting ≡ [])) → fitting ≡ given
fitting_all plans given fitting piece all rests (inl keeps) = all_keep (IsForPlan plans.table) given fitting all keeps
fitting_all plans given fitting (Ok column) all rests (inr (lacks, empty)) = absurd cc
fitting_all plans given fitting (Err error) all rests (inr (lacks, empty)) = let same : error ≡ Memory = cc in absurd (subst RestsOnValues same rests)

pub runs_with : (plans : ScanPlans) (chunk : SelectedRows) (handed : HandedOn) (given : List Kept) (ran : Ran) (now after : SourceState) → AllByRecursion (IsForPlan plans.table) given → IfErr ran.piece RestsOnValues → (runs : RunsOn plans chunk handed given ran now after) → RunsGiven plans chunk handed given runs.all ran now after
runs_with plans chunk handed given ran now after each rests runs = subst (λ (ks : List Kept). RunsGiven plans chunk handed ks runs.all ran now after) (fitting_all plans given runs.fitting ran.piece each rests runs.fits) runs.runs

-- and they stand in place of whole ones
pub given_stand : (plans : ScanPlans) (chunk : SelectedRows) (handed : HandedOn) (given : List Kept) (ran : Ran) (now after : SourceState) → AllByRecursion (IsForPlan plans.table) given → IfErr ran.piece RestsOnValues → (runs : RunsOn plans chunk handed given ran now after) → (n : ℕ) → IsKept given n → IsKept runs.all n
given_stand plans chunk handed given ran now after each rests runs n kept =
    runs.stand.has_given n (subst (λ (ks : List Kept). IsKept ks n) (sym (fitting_all plans given runs.fitting ran.piece each rests runs.fits)) kept)

-- all that a chunk asks for is given or made, whatever else stands there
pub had_there : (plans : ScanPlans) (chunk : SelectedRows) (given all made : List Kept) (piece : Result ColumnData ScanError) → ((n : ℕ) → IsKept given n → IsKept all n) → IfErr piece RestsOnValues → IfErr piece (λ error. RestsOnValues error → AreAllThere plans given made chunk) → IfErr piece (λ error. AreAllThere plans all made chunk)
had_there plans chunk given all made (Ok column) stand rests had = tt
had_there plans chunk given all made (Err error) stand rests had =
    λ n asks. ⊎_elim (λ (kept : IsKept given n). inl (stand n kept)) (λ (kept : IsKept made n). inr kept) (had rests n (asks_same plans all given chunk n asks))

-- none of no values counts
none_fits : (plans : ScanPlans) (given fitting : List Kept) (piece : Result ColumnData ScanError) → given ≡ [] → Keeps (IsForPlan plans.table) given fitting ⊎ ((piece ≡ Err Memory) × (fitting ≡ [])) → fitting ≡ []
none_fits plans given fitting piece none (inl keeps) = subst (λ (ks : List Kept). Keeps (IsForPlan plans.table) ks fitting) none keeps
none_fits plans given fitting piece none (inr (lacks, empty)) = empty

pub runs_alone : (plans : ScanPlans) (chunk : SelectedRows) (handed : HandedOn) (given : List Kept) (ran : Ran) (now after : SourceState) → given ≡ [] → (runs : RunsOn plans chunk handed given ran now after) → RunsGiven plans chunk handed [] runs.all ran now after
runs_alone plans chunk handed given ran now after none runs = subst (λ (ks : List Kept). RunsGiven plans chunk handed ks runs.all ran now after) (none_fits plans given runs.fitting ran.piece none runs.fits) runs.runs

-- nothing was given, or the error comes of no value
pub runs_sure : (plans : ScanPlans) (chunk : SelectedRows) (handed : HandedOn) (borrowed : List KeptValue) (ran : Ran) (error : ScanError) (now after : SourceState) → (borrowed ≡ []) ⊎ (RestsOnValues error → ⊥) → (runs : RunsOn plans chunk handed (data_of borrowed) ran now after) → IsSure runs.fitting error
runs_sure plans chunk handed borrowed ran error now after (inl none) runs = inl (none_fits plans (data_of borrowed) runs.fitting ran.piece (ap data_of none) runs.fits)
runs_sure plans chunk handed borrowed ran error now after (inr not) runs = inr not

-- ---- the lists so far

-- The pieces, and the chunks that ran with borrowed values, by the file of the source as it was.
pub record ListsSoFar (plans : ScanPlans) (chunks : List SelectedRows) (pieces : List Piece) (borrowers : List Borrower) (before : SourceState) : Type 0 where
  pub content : told_by plans before (λ bytes. All (IsPieceOf (leaves_of bytes) plans chunks) pieces)
  pub dtype : All (HasDtype plans) pieces
  pub rows : All (HasItsRows plans chunks) pieces
  pub lent : All (IsBorrower plans chunks) borrowers
  pub lent_by : told_by plans before (λ bytes. All (IsBorrowerBy bytes plans chunks) borrowers)

pub lists_none : (plans : ScanPlans) (chunks : List SelectedRows) (pieces : List Piece) (borrowers : List Borrower) (source : SourceState) → pieces ≡ [] → borrowers ≡ [] → ListsSoFar plans chunks pieces borrowers source
lists_none plans chunks pieces borrowers source no_pieces no_borrowers = rw (no_pieces, no_borrowers) (record {
  content = λ file told. All-nil (IsPieceOf (leaves_of (bytes_of plans file)) plans chunks);
  dtype = All-nil (HasDtype plans);
  rows = All-nil (HasItsRows plans chunks);
  lent = All-nil (IsBorrower plans chunks);
  lent_by = λ file told. All-nil (IsBorrowerBy (bytes_of plans file) plans chunks);
})

pub of_chunk : (P : SelectedRows → Type 0) (got : Option SelectedRows) (chunk : SelectedRows) → got ≡ Some chunk → P chunk → IsSomeAnd got P
of_chunk P None chunk here is = absurd cc
of_chunk P (Some one) chunk here is = let same : one ≡ chunk = cc in subst P (sym same) is

pub piece_of : (P : ColumnData → Type 0) (piece : Result ColumnData ScanError) (column : ColumnData) → piece ≡ Ok column → IfOk piece P → P column
piece_of P (Ok one) column is holds = subst (IfOk_of P) is holds
  where
    IfOk_of : (ColumnData → Type 0) → Result ColumnData ScanError → Type 0
    IfOk_of P result = IfOk result P
piece_of P (Err error) column is holds = absurd cc

-- with the piece of a chunk that was given no values
pub piece_listed : (plans : ScanPlans) (chunks : List SelectedRows) (number : ℕ) (chunk : SelectedRows) (handed : HandedOn) (all : List Kept) (ran : Ran) (column : ColumnData) (pieces : List Piece) (borrowers : List Borrower) (before now after : SourceState) → slice_get chunks number ≡ Some chunk
    → Lasts before now → IsHanded plans handed before → ListsSoFar plans chunks pieces borrowers before → RunsGiven plans chunk handed [] all ran now after → ran.piece ≡ Ok column → IsUnhindered plans chunk → ListsSoFar plans chunks (pieces ++ record { chunk = number; column = column } ∷ []) borrowers before
piece_listed plans chunks number chunk handed all ran column pieces borrowers before now after here lasts is so_far runs piece_is free =
    let piece : GivesPiece (told_on plans handed now) plans [] chunk column = piece_of (GivesPiece (told_on plans handed now) plans [] chunk) ran.piece column piece_is runs.content in
    record {
      content = λ file told.
          All-push (IsPieceOf (leaves_of (bytes_of plans file)) plans chunks) pieces (record { chunk = number; column = column }) (so_far.content file told)
          (of_chunk (λ chunk. IsPiece (leaves_of (bytes_of plans file)) plans [] chunk column) (slice_get chunks number) chunk here
          (told_before plans handed before now (λ bytes. IsPiece (leaves_of bytes) plans [] chunk column) lasts is piece.values file told));
      dtype = All-push (HasDtype plans) pieces (record { chunk = number; column = column }) so_far.dtype piece.dtype;
      rows = All-push (HasItsRows plans chunks) pieces (record { chunk = number; column = column }) so_far.rows
          (of_chunk (λ (one : SelectedRows). (length column.values ≡ true_count one.mask) × IsUnhindered plans one) (slice_get chunks number) chunk here (piece.count, free));
      lent = so_far.lent;
      lent_by = so_far.lent_by;
    }

-- ---- a chunk that ran with borrowed values

-- what came of it, by the file
result_by : (plans : ScanPlans) (handed : HandedOn) (given : List Kept) (chunk : SelectedRows) (piece : Result ColumnData ScanError) (before now after : SourceState) → Lasts before now → IsHanded plans handed before → IfErr piece RestsOnValues → IfOk piece (GivesPiece (told_on plans handed now) plans given chunk) →
    IfErr piece (λ error. Causes (told_on plans handed now) plans given chunk error now after) → told_by plans before (λ bytes. IsResultBy bytes plans given chunk piece)
result_by plans handed given chunk (Ok column) before now after lasts is rests gives cause = told_before plans handed before now (λ bytes. IsPiece (leaves_of bytes) plans given chunk column) lasts is gives.values
result_by plans handed given chunk (Err (BadCode take row)) before now after lasts is rests gives cause = told_before plans handed before now (λ bytes. ChunkReadsBadCode (leaves_of bytes) plans given chunk (number_of take) row) lasts is cause
result_by plans handed given chunk (Err (EvalFault row)) before now after lasts is rests gives cause = told_before plans handed before now (λ bytes. ChunkFaultsAt (leaves_of bytes) plans given chunk row) lasts is cause
result_by plans handed given chunk (Err BadProjection) before now after lasts is rests gives cause = absurd rests
result_by plans handed given chunk (Err OffsetOverflow) before now after lasts is rests gives cause = absurd rests
result_by plans handed given chunk (Err OutOfRange) before now after lasts is rests gives cause = absurd rests
result_by plans handed given chunk (Err (Unsupported list)) before now after lasts is rests gives cause = absurd rests
result_by plans handed given chunk (Err (NoLocation segment)) before now after lasts is rests gives cause = absurd rests
result_by plans handed given chunk (Err ReadFault) before now after lasts is rests gives cause = absurd rests
result_by plans handed given chunk (Err Stalled) before now after lasts is rests gives cause = absurd rests
result_by plans handed given chunk (Err (BadSegment segment)) before now after lasts is rests gives cause = absurd rests
result_by plans handed given chunk (Err Memory) before now after lasts is rests gives cause = absurd rests

-- the chunk, with what it borrowed and what came of it
abbrev pub borrower_of : ℕ → Vec KeptValue → Result ColumnData ScanError → Borrower
borrower_of number borrowed piece = record { chunk = number; borrowed = borrowed; result = piece }

pub borrower_is : (plans : ScanPlans) (chunks : List SelectedRows) (number : ℕ) (chunk : SelectedRows) (handed : HandedOn) (borrowed : Vec KeptValue) (all : List Kept) (ran : Ran) (now after : SourceState) → slice_get chunks number ≡ Some chunk
    → borrowed.items ≢ [] → AreBorrowed plans chunk (data_of borrowed.items) → RunsGiven plans chunk handed (data_of borrowed.items) all ran now after → IfErr ran.piece RestsOnValues → IsUnhindered plans chunk → IsBorrower plans chunks (borrower_of number borrowed ran.piece)
borrower_is plans chunks number chunk handed borrowed all ran now after here some are runs rests free =
    let given : List Kept = data_of borrowed.items in
    record {
      chunk = chunk;
      here = here;
      some = some;
      borrowed = are;
      dtype = there_as ran.piece (GivesPiece (told_on plans handed now) plans given chunk) (λ column. column.dtype ≡ (projection_node plans).dtype) (λ column gives. gives.dtype) runs.content;
      rows = there_as ran.piece (GivesPiece (told_on plans handed now) plans given chunk) (λ column. length column.values ≡ true_count chunk.mask) (λ column gives. gives.count) runs.content;
      rests = rests;
      unhindered = free;
    }

pub borrower_by : (plans : ScanPlans) (chunks : List SelectedRows) (number : ℕ) (chunk : SelectedRows) (handed : HandedOn) (borrowed : Vec KeptValue) (all : List Kept) (ran : Ran) (before now after : SourceState) → slice_get chunks number ≡ Some chunk → Lasts before now → IsHanded plans handed before
    → RunsGiven plans chunk handed (data_of borrowed.items) all ran now after → IfErr ran.piece RestsOnValues → told_by plans before (λ bytes. IsBorrowerBy bytes plans chunks (borrower_of number borrowed ran.piece))
borrower_by plans chunks number chunk handed borrowed all ran before now after here lasts is runs rests file told =
    of_chunk (λ one. IsResultBy (bytes_of plans file) plans (data_of borrowed.items) one ran.piece) (slice_get chunks number) chunk here
    (result_by plans handed (data_of borrowed.items) chunk ran.piece before now after lasts is rests runs.content runs.cause file told)

pub borrower_listed : (plans : ScanPlans) (chunks : List SelectedRows) (borrower : Borrower) (pieces : List Piece) (borrowers : List Borrower) (before : SourceState) → ListsSoFar plans chunks pieces borrowers before → IsBorrower plans chunks borrower → told_by plans before (λ bytes. IsBorrowerBy bytes plans chunks borrower)
    → ListsSoFar plans chunks pieces (borrowers ++ borrower ∷ []) before
borrower_listed plans chunks borrower pieces borrowers before so_far is by = record {
  content = so_far.content;
  dtype = so_far.dtype;
  rows = so_far.rows;
  lent = All-push (IsBorrower plans chunks) borrowers borrower so_far.lent is;
  lent_by = λ file told. All-push (IsBorrowerBy (bytes_of plans file) plans chunks) borrowers borrower (so_far.lent_by file told) (by file told);
}

-- where it is an error, the chunk ended in a fault of rows
pub faults_borrowing : (shares : Bool) (plans : ScanPlans) (chunks : List SelectedRows) (number : ℕ) (borrowed : Vec KeptValue) (piece : Result ColumnData ScanError) (before : SourceState) → shares ≡ true → IsBorrower plans chunks (borrower_of number borrowed piece)
    → told_by plans before (λ bytes. IsBorrowerBy bytes plans chunks (borrower_of number borrowed piece)) → IfErr piece (λ error. FaultsBorrowing shares plans chunks before number)
faults_borrowing shares plans chunks number borrowed (Ok column) before shared is by = tt
faults_borrowing shares plans chunks number borrowed (Err error) before shared is by = record {
  shared = shared;
  borrower = borrower_of number borrowed (Err error);
  number_is = refl;
  is = is;
  error = error;
  failed = refl;
  by = by;
}

-- ---- what a chunk asks for that ran so

first_asks : (plans : ScanPlans) (chosen : SelectedRows) (borrowed : List KeptValue) → borrowed ≢ [] → AllByRecursion (λ (one : Kept). ChunkAsks plans [] chosen one.node) (data_of borrowed) → AsksForWholes plans chosen
first_asks plans chosen [] some each = absurd (some refl)
first_asks plans chosen (one ∷ borrowed) some each = ((kept_data one).node, each.0)

pub borrower_asks : (plans : ScanPlans) (chunks : List SelectedRows) (borrower : Borrower) → IsBorrower plans chunks borrower → IsAsking plans chunks borrower.chunk
borrower_asks plans chunks borrower is =
    of_chunk (λ chunk. AsksForWholes plans chunk × IsUnhindered plans chunk) (slice_get chunks borrower.chunk) is.chunk is.here (first_asks plans is.chunk borrower.borrowed.items is.some is.borrowed.asked, is.unhindered)

-- The chunks that ran with borrowed values, one after another.
use Rattle.std.proofs.Common.{◌≡◌, ℕ, ◌+◌, ◌<◌, ◌≤◌, ◌⊎◌, inl, inr, List, [], ◌∷◌, ◌++◌, Option, Some, None, Result, Ok, Err, length, refl, sym, ap, ◌∙◌, subst, arith}
use Rattle.std.specs.Prelude.{IsSomeAnd}
use Rattle.std.specs.List.{slice_get, All, AllByRecursion}
use Rattle.std.proofs.lemmas.List.{map-append}
use Rattle.std.proofs.lemmas.List.Elements.{All-nil, All-push}
use Rattle.std.proofs.lemmas.Option.{slice_get_within}
use Rattle.vx_rows.specs.Reads.{IsAmong}
use Rattle.vx_rows.specs.SegmentLeaves.{Bytes, leaves_of}
use Rattle.vx_plan.specs.Plans.{plan_at}
use Rattle.vx_plan.specs.Refs.{number_of}
use Rattle.vx_steps.specs.Given.{whole_value}
use Rattle.vx_steps.specs.Held.{AreMade, AreTyped}
use Rattle.vx_splits.specs.declared.selected_rows.SelectedRows.{SelectedRows}
use Rattle.vx_claims.specs.Apart.{times}
use Rattle.vx_claims.proofs.Numbers.{times_itself}
use Rattle.vx_drive.specs.declared.errors.ScanError.{ScanError}
use Rattle.vx_drive.specs.declared.errors.ScanError.TheVariants.{ReadFault}
use Rattle.vx_drive.specs.declared.plans.ScanPlans.{ScanPlans}
use Rattle.vx_drive.specs.Asks.{IsLeftClear, KeepsFaults, Lasts, TellsFaults}
use Rattle.vx_drive.specs.Plans.{bytes_of}
use Rattle.vx_drive.proofs.Distinct.{distinct_none}
use Rattle.vx_drive.proofs.Lasting.{lasts_same, lasts_then}
use Rattle.vx_drive.proofs.Sessions.{asked_nothing}
use Rattle.vx_chunks.specs.ChunkRows.{IsPiece}
use Rattle.vx_chunks.specs.Outcomes.{data_of, Claims, GivesPiece}
use Rattle.vx_chunks.specs.Ways.{whole_number}
use Rattle.vx_workers.specs.declared.worker_states.Borrower.{Borrower}
use Rattle.vx_workers.specs.declared.worker_states.Piece.{Piece}
use Rattle.vx_workers.specs.Borrowers.{borrower_chunks, IsBorrower, IsBorrowerBy, IsResultBy}
use Rattle.vx_workers.specs.Unhindered.{IsUnhindered}
use Rattle.vx_workers.specs.Workers.{HasDtype, HasItsRows, IsPieceOf, numbers_of}
use Rattle.vx_workers.proofs.NewReasons.{among_front}
use Rattle.vx_workers.proofs.Certifying.{clear_then, each_weaker}
use Rattle.vx_workers.proofs.BorrowerChunks.{of_chunk, piece_of}
use Rattle.vx_execute.specs.declared.outcomes.Rerun.{Rerun}
use Rattle.vx_execute.specs.declared.validating.Validated.{Validated}
use Rattle.vx_execute.specs.Validated.{told_of_borrower, told_sound, IsBorrowerOf, IsRerunOf, IsThroughKept, ValidatesOne}
use Rattle.vx_execute.specs.Validating.{rerun_chunks, AsksAgain, IsRerun}
use Rattle.vx_execute.proofs.AskingAgain.{again_more, AsksFor, all_middle, borrower_chunks_more, borrower_chunks_push, numbers_push, reruns_push, times_none}
use Rattle.vx_base.specs.Columns.{ColumnData}
use Rattle.vx_base.specs.Masks.{true_count}
use Rattle.vx_base.specs.Sources.{SourceState}
use Rattle.vx_base.proofs.AllFit.{all-append}

-- ---- between two chunks

-- All borrowers so far are validated, and none of them failed.
pub record Validating (plans : ScanPlans) (chunks : List SelectedRows) (borrowers done : List Borrower) (old now : Validated) (before source : SourceState) : Type 0 where
  pub error : now.error ≡ old.error
  pub pieces_are : (x : ℕ) → times x (numbers_of now.pieces.items) ≡ times x (numbers_of old.pieces.items) + times x (borrower_chunks done)
  pub content : told_sound plans chunks borrowers old before (λ bytes. All (IsPieceOf (leaves_of bytes) plans chunks) now.pieces.items)
  pub right_is : told_sound plans chunks borrowers old before (λ bytes. AreMade plans.table plans.row_offset (data_of now.checked.right.items) (leaves_of bytes))
  pub typed : AreTyped plans.table (data_of now.checked.right.items)
  pub dtype : All (HasDtype plans) old.pieces.items → All (HasDtype plans) now.pieces.items
  pub rows : All (HasItsRows plans chunks) old.pieces.items → All (HasItsRows plans chunks) now.pieces.items
  pub faults : KeepsFaults before source
  pub reruns_are : AllByRecursion (IsRerun plans chunks (told_sound plans chunks borrowers old before)) now.checked.reruns.items
  pub reruns_once : (x : ℕ) → times x (rerun_chunks now.checked.reruns.items) ≤ times x (borrower_chunks done)
  pub again : AsksAgain plans chunks (rerun_chunks now.checked.reruns.items) before source
  pub kept : AllByRecursion (IsThroughKept plans (data_of now.checked.right.items)) again.reasons
  pub none : done ≡ [] → (source ≡ before) × (now.checked.reruns.items ≡ [])
  pub lasts : Lasts before source
  pub in_flight : IsLeftClear before source

-- nothing was asked again
pub asked_none : (plans : ScanPlans) (chunks : List SelectedRows) (numbers : List ℕ) (source : SourceState) → AsksAgain plans chunks numbers source source
asked_none plans chunks numbers source = record {
  reasons = [];
  are = tt;
  direct = tt;
  located = All-nil (λ segment. segment < length plans.locations.items);
  asked = sym (asked_nothing source.asked);
  once_a_chunk = distinct_none;
  once_a_take = distinct_none;
}

pub validating_none : (plans : ScanPlans) (chunks : List SelectedRows) (borrowers : List Borrower) (old : Validated) (source : SourceState) → AreTyped plans.table (data_of old.checked.right.items) → old.checked.reruns.items ≡ [] → Validating plans chunks borrowers [] old old source source
unfolding asked_none
validating_none plans chunks borrowers old source typed none = record {
  error = refl;
  pieces_are = λ x. (let zero : times x [] ≡ 0 = refl in omega (arith, zero));
  content = λ file told sound. sound.pieces_are;
  right_is = λ file told sound. sound.right_are;
  typed = typed;
  dtype = λ all. all;
  rows = λ all. all;
  faults = refl;
  reruns_are = subst (AllByRecursion (IsRerun plans chunks (told_sound plans chunks borrowers old source))) (sym none) tt;
  reruns_once = λ x. (let same = ap (λ (reruns : List Rerun). times x (rerun_chunks reruns)) none in omega (arith, same));
  again = asked_none plans chunks (rerun_chunks old.checked.reruns.items) source;
  kept = tt;
  none = λ empty. (refl, none);
  lasts = lasts_same source;
  in_flight = inr refl;
}

-- ---- one chunk more

-- The borrower is one of them, behind those that are validated, and of that chunk.
pub record IsNext (plans : ScanPlans) (chunks : List SelectedRows) (borrowers done : List Borrower) (borrower : Borrower) (chosen : SelectedRows) : Type 0 where
  pub rest : List Borrower
  pub all : done ++ borrower ∷ rest ≡ borrowers
  pub here : slice_get chunks borrower.chunk ≡ Some chosen
  pub once : (x : ℕ) → times x (borrower_chunks borrowers) ≤ 1

-- what each of them is
pub next_borrower : (plans : ScanPlans) (chunks : List SelectedRows) (borrowers done : List Borrower) (borrower : Borrower) (rest : List Borrower) → done ++ borrower ∷ rest ≡ borrowers → All (IsBorrower plans chunks) borrowers → IsBorrower plans chunks borrower
next_borrower plans chunks borrowers done borrower rest all each = all_middle (IsBorrower plans chunks) done borrower rest (subst (All (IsBorrower plans chunks)) (sym all) each)

pub borrower_inside : (plans : ScanPlans) (chunks : List SelectedRows) (borrower : Borrower) → IsBorrower plans chunks borrower → borrower.chunk < length chunks
borrower_inside plans chunks borrower is = slice_get_within chunks borrower.chunk is.chunk is.here

pub borrower_of_chunk : (plans : ScanPlans) (chunks : List SelectedRows) (borrower : Borrower) (chosen : SelectedRows) → IsBorrower plans chunks borrower → slice_get chunks borrower.chunk ≡ Some chosen → IsBorrowerOf plans chosen borrower
borrower_of_chunk plans chunks borrower chosen is here =
    let both : Some is.chunk ≡ Some chosen = sym is.here ∙ here in
    let same : is.chunk ≡ chosen = cc in
    subst (λ (s : SelectedRows). IsBorrowerOf plans s borrower) same (record { borrowed_are = is.borrowed; dtype = is.dtype; rows = is.rows; rests = is.rests })

-- nothing else hinders its chunk
pub borrower_unhindered : (plans : ScanPlans) (chunks : List SelectedRows) (borrower : Borrower) (chosen : SelectedRows) → IsBorrower plans chunks borrower → slice_get chunks borrower.chunk ≡ Some chosen → IsUnhindered plans chosen
borrower_unhindered plans chunks borrower chosen is here =
    let both : Some is.chunk ≡ Some chosen = sym is.here ∙ here in
    let same : is.chunk ≡ chosen = cc in
    subst (IsUnhindered plans) same is.unhindered

at_chunk : (P : SelectedRows → Type 0) (got : Option SelectedRows) (chosen : SelectedRows) → got ≡ Some chosen → IsSomeAnd got P → P chosen
at_chunk P None chosen here is = absurd cc
at_chunk P (Some one) chosen here is = let same : one ≡ chosen = cc in subst P same is

-- what is claimed of the borrower is claimed where all that was joined is right
pub borrower_told : (plans : ScanPlans) (chunks : List SelectedRows) (borrowers done : List Borrower) (old now : Validated) (borrower : Borrower) (chosen : SelectedRows) (before source : SourceState) → IsNext plans chunks borrowers done borrower chosen → Validating plans chunks borrowers done old now before source →
    (P : Bytes → Type 0) → told_of_borrower plans chosen (data_of now.checked.right.items) borrower source P → told_sound plans chunks borrowers old before P
borrower_told plans chunks borrowers done old now borrower chosen before source next so_far P holds file told sound =
    let each : All (IsBorrowerBy (bytes_of plans file) plans chunks) (done ++ borrower ∷ next.rest) = subst (All (IsBorrowerBy (bytes_of plans file) plans chunks)) (sym next.all) sound.borrowers_are in
    holds file (so_far.lasts.file ∙ told) (so_far.right_is file told sound)
    (at_chunk (λ (chunk : SelectedRows). IsResultBy (bytes_of plans file) plans (data_of borrower.borrowed.items) chunk borrower.result) (slice_get chunks borrower.chunk) chosen next.here
    (all_middle (IsBorrowerBy (bytes_of plans file) plans chunks) done borrower next.rest each))

-- the chunk is none of those before
pub first_time : (plans : ScanPlans) (chunks : List SelectedRows) (borrowers done : List Borrower) (borrower : Borrower) (chosen : SelectedRows) (numbers : List ℕ) → IsNext plans chunks borrowers done borrower chosen → ((x : ℕ) → times x numbers ≤ times x (borrower_chunks done)) → IsAmong borrower.chunk numbers → ⊥
first_time plans chunks borrowers done borrower chosen numbers next most among =
    let x : ℕ = borrower.chunk in
    let all : times x (borrower_chunks (done ++ borrower ∷ next.rest)) ≡ times x (borrower_chunks borrowers) = ap (λ (ls : List Borrower). times x (borrower_chunks ls)) next.all in
    let split = borrower_chunks_more x done borrower next.rest in
    let one = times_itself x (borrower_chunks next.rest) in
    let once = next.once x in
    let less = most x in
    times_none x numbers (omega (arith, all, split, one, once, less)) among

rerun_here : (plans : ScanPlans) (chunks : List SelectedRows) (chosen : SelectedRows) (number : ℕ) (Told Other : Claims) → ((P : Bytes → Type 0) → Told P → Other P) → slice_get chunks number ≡ Some chosen → (rerun : Rerun) → IsRerunOf plans chosen number Told rerun → IsRerun plans chunks Other rerun
rerun_here plans chunks chosen number Told Other carries here rerun is = record {
  chunk = chosen;
  here = ap (slice_get chunks) is.chunk ∙ here;
  asks = is.asks;
  borrowed = is.borrowed;
  made = is.made;
  differ = is.differ;
  whole = carries (λ bytes. whole_value (leaves_of bytes) plans.row_offset (plan_at plans.table (number_of rerun.node)) ≡ Some rerun.made.values) is.whole;
}

-- the reruns behind one chunk more
pub record RerunsMore (plans : ScanPlans) (chunks : List SelectedRows) (Other : Claims) (number : ℕ) (old new : List Rerun) : Type 0 where
  pub are : AllByRecursion (IsRerun plans chunks Other) new
  pub most : (x : ℕ) → times x (rerun_chunks new) ≤ times x (rerun_chunks old) + times x (number ∷ [])
  pub stays : (x : ℕ) → IsAmong x (rerun_chunks old) → IsAmong x (rerun_chunks new)

pub reruns_more : (plans : ScanPlans) (chunks : List SelectedRows) (chosen : SelectedRows) (number : ℕ) (Told Other : Claims) → ((P : Bytes → Type 0) → Told P → Other P) → slice_get chunks number ≡ Some chosen → (old new : List Rerun) → AllByRecursion (IsRerun plans chunks Other) old
    → (new ≡ old) ⊎ ((rerun : Rerun) × IsRerunOf plans chosen number Told rerun × (new ≡ old ++ rerun ∷ [])) → RerunsMore plans chunks Other number old new
reruns_more plans chunks chosen number Told Other carries here old new are (inl same) = record {
  are = subst (AllByRecursion (IsRerun plans chunks Other)) (sym same) are;
  most = λ x. (let e = ap (λ (reruns : List Rerun). times x (rerun_chunks reruns)) same in omega (arith, e));
  stays = λ x among. subst (λ (reruns : List Rerun). IsAmong x (rerun_chunks reruns)) (sym same) among;
}
reruns_more plans chunks chosen number Told Other carries here old new are (inr (rerun, is, same)) = record {
  are = subst (AllByRecursion (IsRerun plans chunks Other)) (sym same) (all-append (IsRerun plans chunks Other) old (rerun ∷ []) are (rerun_here plans chunks chosen number Told Other carries here rerun is, tt));
  most = λ x.
      (let e = ap (λ (reruns : List Rerun). times x (rerun_chunks reruns)) same in
      let push = reruns_push x old rerun in
      let one : times x (rerun.chunk ∷ []) ≡ times x (number ∷ []) = ap (λ (n : ℕ). times x (n ∷ [])) is.chunk in
      omega (arith, e, push, one));
  stays = λ x among. subst (IsAmong x) (sym (ap rerun_chunks same ∙ map-append (λ (one : Rerun). one.chunk) old (rerun ∷ []))) (among_front x (rerun_chunks old) (rerun.chunk ∷ []) among);
}

quiet_for : (result : Result ColumnData ScanError) (column : ColumnData) (before after : SourceState) → result ≡ Ok column → TellsFaults result before after → KeepsFaults before after
quiet_for result column before after is (inl same) = same
quiet_for result column before after is (inr fault) = let both : ◌≡◌ {A = Result ColumnData ScanError} (Ok column) (Err ReadFault) = sym is ∙ fault in absurd cc

-- what became of the chunk, with its piece
pub validating_more : (plans : ScanPlans) (chunks : List SelectedRows) (borrowers done : List Borrower) (old now new : Validated) (borrower : Borrower) (chosen : SelectedRows) (result : Result ColumnData ScanError) (column : ColumnData) (before source after : SourceState) → IsNext plans chunks borrowers done borrower chosen → Validating plans chunks borrowers done old now before source
    → ValidatesOne plans chosen borrower (data_of now.checked.right.items) (data_of new.checked.right.items) now.checked.reruns.items new.checked.reruns.items result source after → result ≡ Ok column → new.error ≡ now.error → new.pieces.items ≡ now.pieces.items ++ record { chunk = borrower.chunk; column = column } ∷ [] → IsUnhindered plans chosen →
    Validating plans chunks borrowers (done ++ borrower ∷ []) old new before after
validating_more plans chunks borrowers done old now new borrower chosen result column before source after next so_far one is error pieces free =
    let Told : Claims = told_of_borrower plans chosen (data_of now.checked.right.items) borrower source in
    let Other : Claims = told_sound plans chunks borrowers old before in
    let carries : (P : Bytes → Type 0) → Told P → Other P = borrower_told plans chunks borrowers done old now borrower chosen before source next so_far in
    let piece : Piece = record { chunk = borrower.chunk; column = column } in
    let gives : GivesPiece Told plans [] chosen column = piece_of (GivesPiece Told plans [] chosen) result column is one.content in
    let more : RerunsMore plans chunks Other borrower.chunk now.checked.reruns.items new.checked.reruns.items = reruns_more plans chunks chosen borrower.chunk Told Other carries next.here now.checked.reruns.items new.checked.reruns.items so_far.reruns_are one.reran in
    let asks : AsksFor plans chunks (rerun_chunks new.checked.reruns.items) (so_far.again.reasons ++ one.asks.reasons) before after =
    again_more plans chunks chosen borrower.chunk (data_of now.checked.right.items) (data_of new.checked.right.items) (rerun_chunks now.checked.reruns.items) (rerun_chunks new.checked.reruns.items) result before source after next.here
    (first_time plans chunks borrowers done borrower chosen (rerun_chunks now.checked.reruns.items) next so_far.reruns_once) more.stays so_far.again so_far.kept one.asks in
    record {
      error = error ∙ so_far.error;
      pieces_are = λ x.
          (let so = so_far.pieces_are x in
          let push = numbers_push x now.pieces.items piece in
          let same = ap (λ (ps : List Piece). times x (numbers_of ps)) pieces in
          let borrowing = borrower_chunks_push x done borrower in
          omega (arith, so, push, same, borrowing));
      content = λ file told sound.
          subst (All (IsPieceOf (leaves_of (bytes_of plans file)) plans chunks)) (sym pieces)
          (All-push (IsPieceOf (leaves_of (bytes_of plans file)) plans chunks) now.pieces.items piece (so_far.content file told sound)
          (of_chunk (λ (chunk : SelectedRows). IsPiece (leaves_of (bytes_of plans file)) plans [] chunk column) (slice_get chunks borrower.chunk) chosen next.here
          (carries (λ bytes. IsPiece (leaves_of bytes) plans [] chosen column) gives.values file told sound)));
      right_is = carries (λ bytes. AreMade plans.table plans.row_offset (data_of new.checked.right.items) (leaves_of bytes)) one.right;
      typed = one.typed;
      dtype = λ all. subst (All (HasDtype plans)) (sym pieces) (All-push (HasDtype plans) now.pieces.items piece (so_far.dtype all) gives.dtype);
      rows = λ all. subst (All (HasItsRows plans chunks)) (sym pieces)
          (All-push (HasItsRows plans chunks) now.pieces.items piece (so_far.rows all) (of_chunk (λ (chunk : SelectedRows). (length column.values ≡ true_count chunk.mask) × IsUnhindered plans chunk) (slice_get chunks borrower.chunk) chosen next.here (gives.count, free)));
      faults = quiet_for result column source after is one.faults ∙ so_far.faults;
      reruns_are = more.are;
      reruns_once = λ x.
          (let most = more.most x in
          let before_most = so_far.reruns_once x in
          let borrowing = borrower_chunks_push x done borrower in
          omega (arith, most, before_most, borrowing));
      again = asks.again;
      kept = subst (AllByRecursion (IsThroughKept plans (data_of new.checked.right.items))) (sym asks.same)
          (all-append (IsThroughKept plans (data_of new.checked.right.items)) so_far.again.reasons one.asks.reasons
          (each_weaker (IsThroughKept plans (data_of now.checked.right.items)) (IsThroughKept plans (data_of new.checked.right.items)) (λ reason there take same. ((there take same).0, one.grows (whole_number (plan_at plans.table take)) (there take same).0 (there take same).1)) so_far.again.reasons so_far.kept)
          (piece_of (λ column. AllByRecursion (IsThroughKept plans (data_of new.checked.right.items)) one.asks.reasons) result column is one.asks.kept));
      none = λ empty. absurd (no_end done borrower empty);
      lasts = lasts_then before source after so_far.lasts one.lasts;
      in_flight = clear_then before source after so_far.in_flight one.in_flight;
    }
  where
    no_end : (done : List Borrower) (borrower : Borrower) → done ++ borrower ∷ [] ≡ [] → ⊥
    no_end [] borrower empty = cc
    no_end (one ∷ done) borrower empty = cc

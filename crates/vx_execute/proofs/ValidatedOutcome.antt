-- What comes of all chunks, once those that ran with borrowed values are validated and all pieces are in order.
use Rattle.std.proofs.Common.{◌≡◌, ℕ, ◌+◌, ◌≤◌, ◌⊎◌, inl, inr, List, [], ◌∷◌, Option, Some, None, length, refl, sym, ap, ◌∙◌, subst, arith}
use Rattle.std.specs.Prelude.{IfSome, IsSomeAnd}
use Rattle.std.specs.List.{sum_by, All}
use Rattle.std.specs.List.Sorted.{IsNonDecreasingBy, IsPermutation}
use Rattle.std.specs.Global.{Vec}
use Rattle.std.proofs.lemmas.List.Elements.{All-nil}
use Rattle.std.proofs.lemmas.List.Sorted.{All-permutation, length_permutation, sum_by-IsPermutation}
use Rattle.std.proofs.lemmas.List.Sums.{sum_by-cons}
use Rattle.vx_rows.specs.SegmentLeaves.{Bytes, leaves_of}
use Rattle.vx_plan.specs.Plans.{plan_at}
use Rattle.vx_plan.specs.Refs.{number_of}
use Rattle.vx_steps.specs.Given.{whole_value}
use Rattle.vx_splits.specs.declared.selected_rows.SelectedRows.{SelectedRows}
use Rattle.vx_claims.specs.Apart.{times}
use Rattle.vx_claims.proofs.Numbers.{is_one}
use Rattle.vx_drive.specs.declared.errors.ScanError.TheVariants.{ReadFault}
use Rattle.vx_drive.specs.declared.plans.ScanPlans.{ScanPlans}
use Rattle.vx_drive.specs.Asks.{KeepsFaults}
use Rattle.vx_drive.specs.Plans.{bytes_of}
use Rattle.vx_drive.proofs.Lasting.{lasts_same}
use Rattle.vx_chunks.specs.Outcomes.{Claims}
use Rattle.vx_chunks.proofs.LastingCauses.{cause_lasts}
use Rattle.vx_workers.specs.declared.joins.Joined.{Joined}
use Rattle.vx_workers.specs.declared.worker_states.ChunkError.{ChunkError}
use Rattle.vx_workers.specs.declared.worker_states.Borrower.{Borrower}
use Rattle.vx_workers.specs.declared.worker_states.Piece.{Piece}
use Rattle.vx_workers.specs.Merges.{no_memory}
use Rattle.vx_workers.specs.Borrowers.{borrower_chunks, IsBorrowerBy}
use Rattle.vx_workers.specs.Workers.{HasDtype, HasItsRows, IsPieceOf, numbers_of}
use Rattle.vx_workers.proofs.Certifying.{each_weaker}
use Rattle.vx_workers.proofs.Joining.{no_memory_least}
use Rattle.vx_execute.specs.declared.outcomes.Rerun.{Rerun}
use Rattle.vx_execute.specs.declared.validating.Validated.{Validated}
use Rattle.vx_execute.specs.Validated.{told_sound, FailsNow, ValidatesAll}
use Rattle.vx_execute.specs.Validating.{told_right, FailsValidated, IsRerun, Validates}
use Rattle.vx_base.specs.Sources.{SourceState}

-- ---- lists in another order

times_pieces : (x : ℕ) (pieces : List Piece) → times x (numbers_of pieces) ≡ sum_by (λ piece. is_one x piece.chunk) pieces
times_pieces x [] = refl
times_pieces x (piece ∷ pieces) =
    let rest = times_pieces x pieces in
    let one : times x (numbers_of (piece ∷ pieces)) ≡ is_one x piece.chunk + times x (numbers_of pieces) = sum_by-cons (is_one x) piece.chunk (numbers_of pieces) in
    let two = sum_by-cons (λ (other : Piece). is_one x other.chunk) piece pieces in
    omega (arith, rest, one, two)

pieces_permuted : (x : ℕ) (old new : List Piece) → IsPermutation old new → times x (numbers_of new) ≡ times x (numbers_of old)
pieces_permuted x old new permutes = times_pieces x new ∙ sum_by-IsPermutation (λ (piece : Piece). is_one x piece.chunk) old new permutes ∙ sym (times_pieces x old)

times_borrowers : (x : ℕ) (borrowers : List Borrower) → times x (borrower_chunks borrowers) ≡ sum_by (λ borrower. is_one x borrower.chunk) borrowers
times_borrowers x [] = refl
times_borrowers x (borrower ∷ borrowers) =
    let rest = times_borrowers x borrowers in
    let one : times x (borrower_chunks (borrower ∷ borrowers)) ≡ is_one x borrower.chunk + times x (borrower_chunks borrowers) = sum_by-cons (is_one x) borrower.chunk (borrower_chunks borrowers) in
    let two = sum_by-cons (λ (other : Borrower). is_one x other.chunk) borrower borrowers in
    omega (arith, rest, one, two)

pub borrowers_permuted : (x : ℕ) (old new : List Borrower) → IsPermutation old new → times x (borrower_chunks new) ≡ times x (borrower_chunks old)
borrowers_permuted x old new permutes = times_borrowers x new ∙ sum_by-IsPermutation (λ (borrower : Borrower). is_one x borrower.chunk) old new permutes ∙ sym (times_borrowers x old)

pub still_once : (old new : List Borrower) → IsPermutation old new → ((x : ℕ) → times x (borrower_chunks old) ≤ 1) → (x : ℕ) → times x (borrower_chunks new) ≤ 1
still_once old new permutes once x = let same = borrowers_permuted x old new permutes in let most = once x in omega (arith, same, most)

empty_of : (borrowers : List Borrower) → length borrowers ≡ 0 → borrowers ≡ []
empty_of [] none = refl
empty_of (borrower ∷ borrowers) none = absurd (omega (arith, none))

none_permuted : (old new : List Borrower) → IsPermutation old new → old ≡ [] → new ≡ []
none_permuted old new permutes empty =
    let long = length_permutation old new permutes in
    let zero = ap length empty in
    empty_of new (omega (arith, long, zero))

-- ---- what is claimed

-- what is validated before the first one
abbrev pub first_validated : Joined → Vec Rerun → Validated
first_validated joined reruns = record { pieces = joined.pieces; checked = record { right = joined.made; reruns = reruns }; error = joined.error }

joined_told : (plans : ScanPlans) (chunks : List SelectedRows) (joined : Joined) (borrowers : List Borrower) (reruns : Vec Rerun) (source : SourceState) → IsPermutation joined.borrowers.items borrowers → (P : Bytes → Type 0) → told_sound plans chunks borrowers (first_validated joined reruns) source P → told_right plans chunks joined source P
joined_told plans chunks joined borrowers reruns source permutes P holds file told right =
    holds file told (record { pieces_are = right.pieces; borrowers_are = All-permutation (IsBorrowerBy (bytes_of plans file) plans chunks) joined.borrowers.items borrowers permutes right.borrowers; right_are = right.made })

rerun_told : (plans : ScanPlans) (chunks : List SelectedRows) (Told Other : Claims) → ((P : Bytes → Type 0) → Told P → Other P) → (rerun : Rerun) → IsRerun plans chunks Told rerun → IsRerun plans chunks Other rerun
rerun_told plans chunks Told Other carries rerun is = record {
  chunk = is.chunk;
  here = is.here;
  asks = is.asks;
  borrowed = is.borrowed;
  made = is.made;
  differ = is.differ;
  whole = carries (λ bytes. whole_value (leaves_of bytes) plans.row_offset (plan_at plans.table (number_of rerun.node)) ≡ Some rerun.made.values) is.whole;
}

fails_told : (plans : ScanPlans) (chunks : List SelectedRows) (joined : Joined) (borrowers : List Borrower) (reruns : Vec Rerun) (error : ChunkError) (before after : SourceState) → IsPermutation joined.borrowers.items borrowers → FailsNow plans chunks borrowers (told_sound plans chunks borrowers (first_validated joined reruns) before) joined.error error before after →
    FailsValidated plans chunks joined error before after
fails_told plans chunks joined borrowers reruns error before after permutes fails = record {
  chunk = fails.chunk;
  here = fails.here;
  borrowing = (let same = borrowers_permuted error.chunk joined.borrowers.items borrowers permutes in let some = fails.borrowing in omega (arith, same, some));
  below = fails.below;
  cause = cause_lasts (told_sound plans chunks borrowers (first_validated joined reruns) before) (told_right plans chunks joined before) (joined_told plans chunks joined borrowers reruns before permutes) plans [] fails.chunk error.error before before after (lasts_same before) fails.cause;
}

-- ---- errors

-- why there is an error
abbrev IsCauseOf : ScanPlans → List SelectedRows → Joined → SourceState → SourceState → ChunkError → Type 0
IsCauseOf plans chunks joined before after error = (error ≡ no_memory) ⊎ ((joined.error ≡ Some error) ⊎ FailsValidated plans chunks joined error before after)

error_cause : (plans : ScanPlans) (chunks : List SelectedRows) (joined : Joined) (borrowers : List Borrower) (reruns : Vec Rerun) (error : Option ChunkError) (before after : SourceState) → IsPermutation joined.borrowers.items borrowers
    → (error ≡ joined.error) ⊎ IsSomeAnd error (λ one. FailsNow plans chunks borrowers (told_sound plans chunks borrowers (first_validated joined reruns) before) joined.error one before after) → IfSome error (IsCauseOf plans chunks joined before after)
error_cause plans chunks joined borrowers reruns None before after permutes cause = tt
error_cause plans chunks joined borrowers reruns (Some error) before after permutes (inl same) = inr (inl (sym same))
error_cause plans chunks joined borrowers reruns (Some error) before after permutes (inr fails) = inr (inr (fails_told plans chunks joined borrowers reruns error before after permutes fails))

error_fault : (error : Option ChunkError) (before after : SourceState) → KeepsFaults before after ⊎ IsSomeAnd error (λ one. one.error ≡ ReadFault) → KeepsFaults before after ⊎ IsSomeAnd error (λ one. (one ≡ no_memory) ⊎ (one.error ≡ ReadFault))
error_fault error before after (inl same) = inl same
error_fault None before after (inr fault) = inr fault
error_fault (Some error) before after (inr fault) = inr (inr fault)

-- ---- all pieces in order

pub validates_sorted : (plans : ScanPlans) (chunks : List SelectedRows) (joined : Joined) (borrowers : List Borrower) (reruns : Vec Rerun) (new : Validated) (pieces : Vec Piece) (before after : SourceState) → IsPermutation joined.borrowers.items borrowers → ValidatesAll plans chunks borrowers (first_validated joined reruns) new before after
    → IsPermutation new.pieces.items pieces.items → IsNonDecreasingBy (λ (piece : Piece). piece.chunk) pieces.items → Validates plans chunks joined (record { pieces = pieces; claimed = joined.claimed; reruns = new.checked.reruns; error = new.error }) before after
validates_sorted plans chunks joined borrowers reruns new pieces before after permutes all moved sorted =
    let carries : (P : Bytes → Type 0) → told_sound plans chunks borrowers (first_validated joined reruns) before P → told_right plans chunks joined before P = joined_told plans chunks joined borrowers reruns before permutes in
    record {
      lists = refl;
      some_pieces = λ x.
          (let most = all.some_pieces x in
          let same = pieces_permuted x new.pieces.items pieces.items moved in
          let borrowing = borrowers_permuted x joined.borrowers.items borrowers permutes in
          omega (arith, most, same, borrowing));
      old_pieces = λ enough x.
          (let most = all.old_pieces x in
          let same = pieces_permuted x new.pieces.items pieces.items moved in
          omega (arith, most, same));
      all_pieces = λ enough x below.
          (let each = all.all_pieces x below in
          let same = pieces_permuted x new.pieces.items pieces.items moved in
          let borrowing = borrowers_permuted x joined.borrowers.items borrowers permutes in
          omega (arith, each, same, borrowing));
      sorted = sorted;
      content = λ file told right. All-permutation (IsPieceOf (leaves_of (bytes_of plans file)) plans chunks) new.pieces.items pieces.items moved
          (carries (λ bytes. All (IsPieceOf (leaves_of bytes) plans chunks) new.pieces.items) all.content file told right);
      dtype = λ each. All-permutation (HasDtype plans) new.pieces.items pieces.items moved (all.dtype each);
      rows = λ each. All-permutation (HasItsRows plans chunks) new.pieces.items pieces.items moved (all.rows each);
      cause = error_cause plans chunks joined borrowers reruns new.error before after permutes all.cause;
      lowest = all.lowest;
      faults = error_fault new.error before after all.faults;
      reruns = each_weaker (IsRerun plans chunks (told_sound plans chunks borrowers (first_validated joined reruns) before)) (IsRerun plans chunks (told_right plans chunks joined before))
          (rerun_told plans chunks (told_sound plans chunks borrowers (first_validated joined reruns) before) (told_right plans chunks joined before) carries) new.checked.reruns.items all.reruns;
      reruns_once = λ x. (let most = all.reruns_once x in let borrowing = borrowers_permuted x joined.borrowers.items borrowers permutes in omega (arith, most, borrowing));
      again = all.again;
      none = λ empty. all.none (none_permuted joined.borrowers.items borrowers permutes empty);
      lasts = all.lasts;
      in_flight = all.in_flight;
    }

-- there is no memory for the order
pub validates_unordered : (plans : ScanPlans) (chunks : List SelectedRows) (joined : Joined) (borrowers : List Borrower) (reruns : Vec Rerun) (new : Validated) (pieces : Vec Piece) (before after : SourceState) → IsPermutation joined.borrowers.items borrowers → ValidatesAll plans chunks borrowers (first_validated joined reruns) new before after
    → pieces.items ≡ [] → IsNonDecreasingBy (λ (piece : Piece). piece.chunk) pieces.items → Validates plans chunks joined (record { pieces = pieces; claimed = joined.claimed; reruns = new.checked.reruns; error = Some no_memory }) before after
validates_unordered plans chunks joined borrowers reruns new pieces before after permutes all empty sorted =
    let carries : (P : Bytes → Type 0) → told_sound plans chunks borrowers (first_validated joined reruns) before P → told_right plans chunks joined before P = joined_told plans chunks joined borrowers reruns before permutes in
    record {
      lists = refl;
      some_pieces = λ x. (let same : times x (numbers_of pieces.items) ≡ 0 = ap (λ (ps : List Piece). times x (numbers_of ps)) empty in omega (arith, same));
      old_pieces = λ enough. absurd (enough refl);
      all_pieces = λ enough. absurd (enough refl);
      sorted = sorted;
      content = λ file told right. subst (All (IsPieceOf (leaves_of (bytes_of plans file)) plans chunks)) (sym empty) (All-nil (IsPieceOf (leaves_of (bytes_of plans file)) plans chunks));
      dtype = λ each. subst (All (HasDtype plans)) (sym empty) (All-nil (HasDtype plans));
      rows = λ each. subst (All (HasItsRows plans chunks)) (sym empty) (All-nil (HasItsRows plans chunks));
      cause = inl refl;
      lowest = no_memory_least joined.error;
      faults = inr (inl refl);
      reruns = each_weaker (IsRerun plans chunks (told_sound plans chunks borrowers (first_validated joined reruns) before)) (IsRerun plans chunks (told_right plans chunks joined before))
          (rerun_told plans chunks (told_sound plans chunks borrowers (first_validated joined reruns) before) (told_right plans chunks joined before) carries) new.checked.reruns.items all.reruns;
      reruns_once = λ x. (let most = all.reruns_once x in let borrowing = borrowers_permuted x joined.borrowers.items borrowers permutes in omega (arith, most, borrowing));
      again = all.again;
      none = λ empty. all.none (none_permuted joined.borrowers.items borrowers permutes empty);
      lasts = all.lasts;
      in_flight = all.in_flight;
    }

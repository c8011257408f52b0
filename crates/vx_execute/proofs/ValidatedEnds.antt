-- How the validation of chunks that ran with borrowed values ends: behind the last of them, before one that lies no lower than
-- the error, or with one that failed.
use Rattle.std.proofs.Common.{◌≡◌, ℕ, ◌+◌, ◌<◌, ◌⊎◌, inl, inr, ⊎_elim, List, [], ◌∷◌, ◌++◌, Option, Some, None, Result, Ok, Err, refl, sym, ap, ◌∙◌, subst, arith}
use Rattle.std.specs.Prelude.{IfErr, IsSomeAnd}
use Rattle.std.specs.List.{All}
use Rattle.std.specs.List.Sorted.{IsNonDecreasingBy}
use Rattle.std.proofs.lemmas.List.{append-nil, map-append}
use Rattle.vx_rows.specs.SegmentLeaves.{Bytes, leaves_of}
use Rattle.vx_splits.specs.declared.selected_rows.SelectedRows.{SelectedRows}
use Rattle.vx_claims.specs.Apart.{times}
use Rattle.vx_claims.proofs.Numbers.{times_append, times_itself}
use Rattle.vx_drive.specs.declared.errors.ScanError.{ScanError}
use Rattle.vx_drive.specs.declared.errors.ScanError.TheVariants.{ReadFault, Memory}
use Rattle.vx_drive.specs.declared.plans.ScanPlans.{ScanPlans}
use Rattle.vx_drive.specs.Asks.{KeepsFaults, Lasts, TellsFaults}
use Rattle.vx_drive.proofs.Lasting.{lasts_then}
use Rattle.vx_chunks.specs.Outcomes.{data_of, Causes, Claims}
use Rattle.vx_chunks.proofs.LastingCauses.{cause_lasts}
use Rattle.vx_workers.specs.declared.worker_states.ChunkError.{ChunkError}
use Rattle.vx_workers.specs.declared.worker_states.Borrower.{Borrower}
use Rattle.vx_workers.specs.declared.worker_states.Piece.{Piece}
use Rattle.vx_workers.specs.Merges.{IsAtMost, IsBelow}
use Rattle.vx_workers.specs.Borrowers.{borrower_chunks}
use Rattle.vx_workers.specs.Workers.{HasDtype, HasItsRows, IsPieceOf, numbers_of}
use Rattle.vx_workers.proofs.Certifying.{clear_then}
use Rattle.vx_execute.specs.declared.validating.Validated.{Validated}
use Rattle.vx_execute.specs.Validated.{told_of_borrower, told_sound, FailsNow, IsNotBelow, ValidatesAll, ValidatesOne}
use Rattle.vx_execute.specs.Validating.{rerun_chunks}
use Rattle.vx_execute.proofs.AskingAgain.{again_more, sorted_behind, times_cons, times_lower}
use Rattle.vx_execute.proofs.ValidatingAll.{first_time, borrower_told, reruns_more, IsNext, RerunsMore, Validating}
use Rattle.vx_base.specs.Columns.{ColumnData}
use Rattle.vx_base.specs.Sources.{SourceState}

-- ---- errors

at_most_same : (error other : Option ChunkError) → error ≡ other → IsAtMost error other
at_most_same error None same = tt
at_most_same None (Some other) same = absurd cc
at_most_same (Some error) (Some other) same = let e : error ≡ other = cc in let f = ap (λ (one : ChunkError). one.chunk) e in omega (arith, f)

-- a chunk below the error lies below one that is not
below_stop : (error : Option ChunkError) (x number : ℕ) → IsBelow error x → IsNotBelow error number → x < number
below_stop None x number below stop = absurd stop
below_stop (Some error) x number below stop = omega (arith, below, stop)

borrower_chunks_both : (x : ℕ) (done rest : List Borrower) → times x (borrower_chunks (done ++ rest)) ≡ times x (borrower_chunks done) + times x (borrower_chunks rest)
borrower_chunks_both x done rest = ap (times x) (map-append (λ (one : Borrower). one.chunk) done rest) ∙ times_append x (borrower_chunks done) (borrower_chunks rest)

-- ---- behind all of them, or before one that lies no lower than the error

pub validates_stopped : (plans : ScanPlans) (chunks : List SelectedRows) (borrowers done : List Borrower) (old now : Validated) (rest : List Borrower) (before source : SourceState) → done ++ rest ≡ borrowers → ((x : ℕ) → IsBelow now.error x → times x (borrower_chunks rest) ≡ 0) → (borrowers ≡ [] → done ≡ []) →
    Validating plans chunks borrowers done old now before source → ValidatesAll plans chunks borrowers old now before source
validates_stopped plans chunks borrowers done old now rest before source all none start so_far =
    let split : (x : ℕ) → times x (borrower_chunks borrowers) ≡ times x (borrower_chunks done) + times x (borrower_chunks rest) = λ x. ap (λ (ls : List Borrower). times x (borrower_chunks ls)) (sym all) ∙ borrower_chunks_both x done rest in
    record {
      some_pieces = λ x. (let so = so_far.pieces_are x in let both = split x in omega (arith, so, both));
      old_pieces = λ x. (let so = so_far.pieces_are x in omega (arith, so));
      all_pieces = λ x below. (let so = so_far.pieces_are x in let both = split x in let zero = none x below in omega (arith, so, both, zero));
      content = so_far.content;
      dtype = so_far.dtype;
      rows = so_far.rows;
      cause = inl so_far.error;
      lowest = at_most_same now.error old.error so_far.error;
      faults = inl so_far.faults;
      reruns = so_far.reruns_are;
      reruns_once = λ x. (let most = so_far.reruns_once x in let both = split x in omega (arith, most, both));
      again = so_far.again;
      none = λ empty. so_far.none (start empty);
      lasts = so_far.lasts;
      in_flight = so_far.in_flight;
    }

-- behind the last one
pub validates_done : (plans : ScanPlans) (chunks : List SelectedRows) (borrowers done : List Borrower) (old now : Validated) (before source : SourceState) → done ≡ borrowers → Validating plans chunks borrowers done old now before source → ValidatesAll plans chunks borrowers old now before source
validates_done plans chunks borrowers done old now before source all so_far =
    validates_stopped plans chunks borrowers done old now [] before source (append-nil done ∙ all) (λ x below. refl) (λ empty. all ∙ empty) so_far

not_empty : (plans : ScanPlans) (chunks : List SelectedRows) (borrowers done : List Borrower) (borrower : Borrower) (rest : List Borrower) → done ++ borrower ∷ rest ≡ borrowers → borrowers ≡ [] → ⊥
not_empty plans chunks borrowers [] borrower rest all empty = let both : borrower ∷ rest ≡ [] = all ∙ empty in cc
not_empty plans chunks borrowers (one ∷ done) borrower rest all empty = let both : one ∷ (done ++ borrower ∷ rest) ≡ [] = all ∙ empty in cc

lower_none : (borrowers done : List Borrower) (borrower : Borrower) (rest : List Borrower) (x : ℕ) → done ++ borrower ∷ rest ≡ borrowers → IsNonDecreasingBy (λ (one : Borrower). one.chunk) borrowers → x < borrower.chunk → times x (borrower_chunks (borrower ∷ rest)) ≡ 0
lower_none borrowers done borrower rest x all sorted less =
    times_lower x borrower.chunk (borrower ∷ rest) (sorted_behind (λ (one : Borrower). one.chunk) done borrower rest (subst (IsNonDecreasingBy (λ (one : Borrower). one.chunk)) (sym all) sorted)) less

-- before one that lies no lower than the error
pub validates_before : (plans : ScanPlans) (chunks : List SelectedRows) (borrowers done : List Borrower) (old now : Validated) (borrower : Borrower) (rest : List Borrower) (before source : SourceState) → done ++ borrower ∷ rest ≡ borrowers → IsNonDecreasingBy (λ (one : Borrower). one.chunk) borrowers → IsNotBelow now.error borrower.chunk →
    Validating plans chunks borrowers done old now before source → ValidatesAll plans chunks borrowers old now before source
validates_before plans chunks borrowers done old now borrower rest before source all sorted stop so_far =
    validates_stopped plans chunks borrowers done old now (borrower ∷ rest) before source all (λ x below. lower_none borrowers done borrower rest x all sorted (below_stop now.error x borrower.chunk below stop))
    (λ empty. absurd (not_empty plans chunks borrowers done borrower rest all empty)) so_far

-- ---- with one that failed

-- the error of the result, or want of memory for its piece
abbrev pub IsErrorOf : Result ColumnData ScanError → ScanError → Type 0
IsErrorOf result error = (result ≡ Err error) ⊎ ((error ≡ Memory) × ((column : ColumnData) × (result ≡ Ok column)))

failed_cause : (Told : Claims) (plans : ScanPlans) (chosen : SelectedRows) (result : Result ColumnData ScanError) (error : ScanError) (before after : SourceState) → IsErrorOf result error → IfErr result (λ one. Causes Told plans [] chosen one before after) → Causes Told plans [] chosen error before after
failed_cause Told plans chosen (Ok column) error before after (inl is) cause = absurd cc
failed_cause Told plans chosen (Err one) error before after (inl is) cause = let same : one ≡ error = cc in subst (λ (e : ScanError). Causes Told plans [] chosen e before after) same cause
failed_cause Told plans chosen result error before after (inr (lacks, made)) cause = subst (λ (e : ScanError). Causes Told plans [] chosen e before after) (sym lacks) tt

failed_faults : (result : Result ColumnData ScanError) (error : ScanError) (before now after : SourceState) → KeepsFaults before now → IsErrorOf result error → TellsFaults result now after → KeepsFaults before after ⊎ (error ≡ ReadFault)
failed_faults result error before now after first is (inl same) = inl (same ∙ first)
failed_faults result error before now after first (inl is) (inr fault) =
    let both : ◌≡◌ {A = Result ColumnData ScanError} (Err error) (Err ReadFault) = sym is ∙ fault in
    inr cc
failed_faults result error before now after first (inr (lacks, (column, is))) (inr fault) =
    let both : ◌≡◌ {A = Result ColumnData ScanError} (Ok column) (Err ReadFault) = sym is ∙ fault in
    absurd cc

-- a cause of the chunk is one since the validation began
cause_sound : (plans : ScanPlans) (chosen : SelectedRows) (result : Result ColumnData ScanError) (before now after : SourceState) (Told Other : Claims) → ((P : Bytes → Type 0) → Told P → Other P) → Lasts before now → IfErr result (λ one. Causes Told plans [] chosen one now after) → IfErr result (λ one. Causes Other plans [] chosen one before after)
cause_sound plans chosen (Ok column) before now after Told Other carries lasts cause = tt
cause_sound plans chosen (Err error) before now after Told Other carries lasts cause = cause_lasts Told Other carries plans [] chosen error before now after lasts cause

lower_error : (error other : Option ChunkError) (number : ℕ) → error ≡ other → IsBelow error number → (failed : ChunkError) → failed.chunk ≡ number → IsAtMost (Some failed) other
lower_error error None number same below failed is = tt
lower_error None (Some other) number same below failed is = absurd cc
lower_error (Some error) (Some other) number same below failed is =
    let e : error ≡ other = cc in
    let f = ap (λ (one : ChunkError). one.chunk) e in
    omega (arith, f, below, is)

pub validates_failing : (plans : ScanPlans) (chunks : List SelectedRows) (borrowers done : List Borrower) (old now new : Validated) (borrower : Borrower) (chosen : SelectedRows) (result : Result ColumnData ScanError) (error : ScanError) (before source after : SourceState) → (next : IsNext plans chunks borrowers done borrower chosen) → IsNonDecreasingBy (λ (one : Borrower). one.chunk) borrowers
    → Validating plans chunks borrowers done old now before source → IsBelow now.error borrower.chunk → ValidatesOne plans chosen borrower (data_of now.checked.right.items) (data_of new.checked.right.items) now.checked.reruns.items new.checked.reruns.items result source after → IsErrorOf result error → new.error ≡ Some (record { chunk = borrower.chunk; error = error })
    → new.pieces.items ≡ now.pieces.items → ValidatesAll plans chunks borrowers old new before after
validates_failing plans chunks borrowers done old now new borrower chosen result error before source after next sorted so_far below one fails failed pieces =
    let Told : Claims = told_of_borrower plans chosen (data_of now.checked.right.items) borrower source in
    let Other : Claims = told_sound plans chunks borrowers old before in
    let carries : (P : Bytes → Type 0) → Told P → Other P = borrower_told plans chunks borrowers done old now borrower chosen before source next so_far in
    let more : RerunsMore plans chunks Other borrower.chunk now.checked.reruns.items new.checked.reruns.items = reruns_more plans chunks chosen borrower.chunk Told Other carries next.here now.checked.reruns.items new.checked.reruns.items so_far.reruns_are one.reran in
    let split : (x : ℕ) → times x (borrower_chunks borrowers) ≡ times x (borrower_chunks done) + times x (borrower_chunks (borrower ∷ next.rest)) = λ x. ap (λ (ls : List Borrower). times x (borrower_chunks ls)) (sym next.all) ∙ borrower_chunks_both x done (borrower ∷ next.rest) in
    let at : ChunkError = record { chunk = borrower.chunk; error = error } in
    record {
      some_pieces = λ x.
          (let so = so_far.pieces_are x in
          let both = split x in
          let same = ap (λ (ps : List Piece). times x (numbers_of ps)) pieces in
          omega (arith, so, both, same));
      old_pieces = λ x.
          (let so = so_far.pieces_are x in
          let same = ap (λ (ps : List Piece). times x (numbers_of ps)) pieces in
          omega (arith, so, same));
      all_pieces = λ x lower.
          (let so = so_far.pieces_are x in
          let both = split x in
          let same = ap (λ (ps : List Piece). times x (numbers_of ps)) pieces in
          let less : x < borrower.chunk = subst (λ (e : Option ChunkError). IsBelow e x) failed lower in
          let zero = lower_none borrowers done borrower next.rest x next.all sorted less in
          omega (arith, so, both, same, zero));
      content = subst (λ (ps : List Piece). Other (λ bytes. All (IsPieceOf (leaves_of bytes) plans chunks) ps)) (sym pieces) so_far.content;
      dtype = λ all. subst (All (HasDtype plans)) (sym pieces) (so_far.dtype all);
      rows = λ all. subst (All (HasItsRows plans chunks)) (sym pieces) (so_far.rows all);
      cause = inr (subst (λ (e : Option ChunkError). IsSomeAnd e (λ failure. FailsNow plans chunks borrowers Other old.error failure before after)) (sym failed) (record {
        chunk = chosen;
        here = next.here;
        borrowing = (let both = split borrower.chunk in let itself = times_itself borrower.chunk (borrower_chunks next.rest) in omega (arith, both, itself));
        below = subst (λ (e : Option ChunkError). IsBelow e borrower.chunk) so_far.error below;
        cause = failed_cause Other plans chosen result error before after fails (cause_sound plans chosen result before source after Told Other carries so_far.lasts one.cause);
      }));
      lowest = subst (λ (e : Option ChunkError). IsAtMost e old.error) (sym failed) (lower_error now.error old.error borrower.chunk so_far.error below at refl);
      faults = ⊎_elim (λ (same : KeepsFaults before after). inl same) (λ (fault : error ≡ ReadFault). inr (subst (λ (e : Option ChunkError). IsSomeAnd e (λ failure. failure.error ≡ ReadFault)) (sym failed) fault))
          (failed_faults result error before source after so_far.faults fails one.faults);
      reruns = more.are;
      reruns_once = λ x.
          (let most = more.most x in
          let before_most = so_far.reruns_once x in
          let both = split x in
          let cons = times_cons x borrower.chunk (borrower_chunks next.rest) in
          omega (arith, most, before_most, both, cons));
      again = (again_more plans chunks chosen borrower.chunk (data_of now.checked.right.items) (data_of new.checked.right.items) (rerun_chunks now.checked.reruns.items) (rerun_chunks new.checked.reruns.items) result before source after next.here
          (first_time plans chunks borrowers done borrower chosen (rerun_chunks now.checked.reruns.items) next so_far.reruns_once) more.stays so_far.again so_far.kept one.asks).again;
      none = λ empty. absurd (not_empty plans chunks borrowers done borrower next.rest next.all empty);
      lasts = lasts_then before source after so_far.lasts one.lasts;
      in_flight = clear_then before source after so_far.in_flight one.in_flight;
    }

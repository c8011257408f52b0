-- Lists of borrowers, pieces and reruns with one chunk more, and what is asked again for it.
use Rattle.std.proofs.Common.{◌≡◌, ◌≢◌, ℕ, suc, ◌+◌, ◌<◌, ◌≤◌, inl, inr, List, [], ◌∷◌, ◌++◌, Some, None, Result, length, map, refl, sym, ap, ◌∙◌, subst, arith}
use Rattle.std.specs.Prelude.{if◌then◌else◌, ◌==◌}
use Rattle.std.specs.List.{slice_get, flat_map, All, AllByRecursion}
use Rattle.std.specs.List.Sorted.{IsNonDecreasingBy}
use Rattle.std.proofs.lemmas.Grind.{flat_map-append}
use Rattle.std.proofs.lemmas.List.{map-append}
use Rattle.std.proofs.lemmas.List.Elements.{All-nil, All-cons, All-append, All-head, All-tail}
use Rattle.std.proofs.lemmas.List.Sums.{sum_by-cons}
use Rattle.vx_rows.specs.Reads.{Way, directly, through, IsAmong}
use Rattle.vx_plan.specs.Plans.{plan_at}
use Rattle.vx_steps.specs.Kept.{kept_at, IsKept}
use Rattle.vx_steps.specs.KeptData.{Kept}
use Rattle.vx_splits.specs.declared.selected_rows.SelectedRows.{SelectedRows}
use Rattle.vx_io.specs.Fetches.{asked_for}
use Rattle.vx_claims.specs.Apart.{times}
use Rattle.vx_claims.proofs.Numbers.{times_append, times_itself, times_other}
use Rattle.vx_drive.specs.declared.errors.ScanError.{ScanError}
use Rattle.vx_drive.specs.declared.plans.ScanPlans.{ScanPlans}
use Rattle.vx_drive.specs.Fetched.{AreDistinct, location_of}
use Rattle.vx_drive.proofs.Distinct.{distinct_then}
use Rattle.vx_drive.proofs.Sessions.{asked_then}
use Rattle.vx_chunks.specs.Ways.{whole_number}
use Rattle.vx_workers.specs.declared.worker_states.Borrower.{Borrower}
use Rattle.vx_workers.specs.declared.worker_states.Piece.{Piece}
use Rattle.vx_workers.specs.Borrowers.{borrower_chunks}
use Rattle.vx_workers.specs.Reasons.{Reason, segment_of, take_and_segment, IsReasonAmong}
use Rattle.vx_workers.specs.Workers.{numbers_of}
use Rattle.vx_workers.proofs.Certifying.{each_weaker}
use Rattle.vx_workers.proofs.Taken.{taken_apart}
use Rattle.vx_execute.specs.declared.outcomes.Rerun.{Rerun}
use Rattle.vx_execute.specs.Validated.{AsksForOne, IsReasonOf, IsThroughKept, IsThroughLacking}
use Rattle.vx_execute.specs.Validating.{direct_by, direct_and_segment, rerun_chunks, AsksAgain, IsDirectAmong}
use Rattle.vx_base.specs.Columns.{ColumnData}
use Rattle.vx_base.specs.Sources.{SourceState}
use Rattle.vx_base.specs.declared.locations.SegmentLocation.{SegmentLocation}
use Rattle.vx_base.proofs.AllFit.{all-append}

-- ---- numbers

pub times_none : (x : ℕ) (numbers : List ℕ) → times x numbers ≡ 0 → IsAmong x numbers → ⊥
times_none x [] none among = among
times_none x (n ∷ numbers) none (inl here) =
    let F : ℕ → Type 0 = λ m. times x (m ∷ numbers) ≡ 0 in
    let same : times x (x ∷ numbers) ≡ 0 = subst F here none in
    let one = times_itself x numbers in
    omega (arith, same, one)
times_none x (n ∷ numbers) none (inr later) =
    let cons : times x (n ∷ numbers) ≡ (if n == x then 1 else 0) + times x numbers = sum_by-cons (λ (m : ℕ). if m == x then 1 else 0) n numbers in
    times_none x numbers (omega (arith, none, cons)) later

-- how often a number stands among borrowers with one more
pub borrower_chunks_more : (x : ℕ) (done : List Borrower) (borrower : Borrower) (rest : List Borrower) → times x (borrower_chunks (done ++ borrower ∷ rest)) ≡ times x (borrower_chunks done) + times x (borrower.chunk ∷ borrower_chunks rest)
borrower_chunks_more x done borrower rest = ap (times x) (map-append (λ (one : Borrower). one.chunk) done (borrower ∷ rest)) ∙ times_append x (borrower_chunks done) (borrower.chunk ∷ borrower_chunks rest)

pub times_cons : (x n : ℕ) (numbers : List ℕ) → times x (n ∷ numbers) ≡ times x (n ∷ []) + times x numbers
times_cons x n numbers = times_append x (n ∷ []) numbers

pub borrower_chunks_push : (x : ℕ) (done : List Borrower) (borrower : Borrower) → times x (borrower_chunks (done ++ borrower ∷ [])) ≡ times x (borrower_chunks done) + times x (borrower.chunk ∷ [])
borrower_chunks_push x done borrower = borrower_chunks_more x done borrower []

pub numbers_push : (x : ℕ) (pieces : List Piece) (piece : Piece) → times x (numbers_of (pieces ++ piece ∷ [])) ≡ times x (numbers_of pieces) + times x (piece.chunk ∷ [])
numbers_push x pieces piece = ap (times x) (map-append (λ (one : Piece). one.chunk) pieces (piece ∷ [])) ∙ times_append x (numbers_of pieces) (piece.chunk ∷ [])

pub reruns_push : (x : ℕ) (reruns : List Rerun) (rerun : Rerun) → times x (rerun_chunks (reruns ++ rerun ∷ [])) ≡ times x (rerun_chunks reruns) + times x (rerun.chunk ∷ [])
reruns_push x reruns rerun = ap (times x) (map-append (λ (one : Rerun). one.chunk) reruns (rerun ∷ [])) ∙ times_append x (rerun_chunks reruns) (rerun.chunk ∷ [])

pub all_middle : {X : Type 0} (P : X → Type 0) (xs : List X) (y : X) (ys : List X) → All P (xs ++ y ∷ ys) → P y
all_middle P [] y ys all = All-head P y ys all
all_middle P (x ∷ xs) y ys all = all_middle P xs y ys (All-tail P x (xs ++ y ∷ ys) all)

-- ---- the order of the borrowers

sorted_tail : {X : Type 0} (f : X → ℕ) (x : X) (xs : List X) → IsNonDecreasingBy f (x ∷ xs) → IsNonDecreasingBy f xs
sorted_tail f x xs sorted i j d le less = sorted (suc i) (suc j) d (omega (arith, le)) (omega (arith, less))

-- those behind one are no lower
pub sorted_behind : {X : Type 0} (f : X → ℕ) (xs : List X) (y : X) (ys : List X) → IsNonDecreasingBy f (xs ++ y ∷ ys) → All (λ z. f y ≤ f z) (y ∷ ys)
sorted_behind f [] y ys sorted = λ k d less. sorted 0 k d (omega arith) less
sorted_behind f (x ∷ xs) y ys sorted = sorted_behind f xs y ys (sorted_tail f x (xs ++ y ∷ ys) sorted)

pub times_lower : (x n : ℕ) (borrowers : List Borrower) → All (λ (borrower : Borrower). n ≤ borrower.chunk) borrowers → x < n → times x (borrower_chunks borrowers) ≡ 0
times_lower x n [] all less = refl
times_lower x n (borrower ∷ borrowers) all less =
    let here = All-head (λ (one : Borrower). n ≤ one.chunk) borrower borrowers all in
    let rest = times_lower x n borrowers (All-tail (λ (one : Borrower). n ≤ one.chunk) borrower borrowers all) less in
    let other : times x (borrower.chunk ∷ borrower_chunks borrowers) ≡ times x (borrower_chunks borrowers) = times_other x borrower.chunk (borrower_chunks borrowers) (λ same. absurd (omega (arith, here, less, same))) in
    omega (arith, rest, other)

-- ---- asks of one chunk more

reason_among : (plans : ScanPlans) (chunks : List SelectedRows) (chosen : SelectedRows) (number : ℕ) → slice_get chunks number ≡ Some chosen → (reason : Reason) → IsReasonOf plans chosen number reason → IsReasonAmong plans chunks reason
reason_among plans chunks chosen number here reason is = record {
  chunk = chosen;
  here = ap (slice_get chunks) is.place ∙ here;
  reads = is.reads;
  reaches = is.reaches;
}

pub not_both : (right : List Kept) (n : ℕ) → IsKept right n → kept_at right n ≡ None → ⊥
not_both right n (column, at) none = let both : Some column ≡ None = sym at ∙ none in cc

-- what is asked for directly is asked for a chunk that is so
all_by : (P : ℕ × ℕ → Type 0) (way : Way) (chunk segment : ℕ) (pairs : List (ℕ × ℕ)) → (way ≡ directly → P (chunk, segment)) → All P pairs → All P (direct_by way chunk segment ++ pairs)
all_by P directly chunk segment pairs is all = All-cons P (chunk, segment) pairs (is refl) all
all_by P (through take) chunk segment pairs is all = all

all_direct : (P : ℕ × ℕ → Type 0) (reasons : List Reason) → AllByRecursion (λ (reason : Reason). reason.way ≡ directly → P (reason.chunk, reason.segment)) reasons → All P (flat_map direct_and_segment reasons)
all_direct P [] each = All-nil P
all_direct P (reason ∷ reasons) each = all_by P reason.way reason.chunk reason.segment (flat_map direct_and_segment reasons) each.0 (all_direct P reasons each.1)

direct_apart : (plans : ScanPlans) (chosen : SelectedRows) (numbers : List ℕ) (number : ℕ) (olds news : List Reason) → (IsAmong number numbers → ⊥) → AllByRecursion (IsDirectAmong numbers) olds → AllByRecursion (IsReasonOf plans chosen number) news →
    All (λ one. All (λ two. one ≢ two) (flat_map direct_and_segment news)) (flat_map direct_and_segment olds)
direct_apart plans chosen numbers number olds news not first second =
    all_direct (λ one. All (λ two. one ≢ two) (flat_map direct_and_segment news)) olds
    (each_weaker (IsDirectAmong numbers) (λ (old : Reason). old.way ≡ directly → All (λ two. (old.chunk, old.segment) ≢ two) (flat_map direct_and_segment news))
    (λ old among is.
    all_direct (λ two. (old.chunk, old.segment) ≢ two) news
    (each_weaker (IsReasonOf plans chosen number) (λ (new : Reason). new.way ≡ directly → (old.chunk, old.segment) ≢ (new.chunk, new.segment))
    (λ new of also same. not (subst (λ (n : ℕ). IsAmong n numbers) (ap (λ (pair : ℕ × ℕ). pair.0) same ∙ of.place) (among is))) news second))
    olds first)

-- the asks again, for these reasons
pub record AsksFor (plans : ScanPlans) (chunks : List SelectedRows) (numbers : List ℕ) (reasons : List Reason) (before after : SourceState) : Type 0 where
  pub again : AsksAgain plans chunks numbers before after
  pub same : again.reasons ≡ reasons

-- the asks of the chunks before and of one more, none of which were for it
pub again_more : (plans : ScanPlans) (chunks : List SelectedRows) (chosen : SelectedRows) (number : ℕ) (old new : List Kept) (numbers more : List ℕ) (result : Result ColumnData ScanError) (before now after : SourceState) → slice_get chunks number ≡ Some chosen → (IsAmong number numbers → ⊥) → ((x : ℕ) → IsAmong x numbers → IsAmong x more)
    → (again : AsksAgain plans chunks numbers before now) → AllByRecursion (IsThroughKept plans old) again.reasons → (asks : AsksForOne plans chosen number old new more result now after) → AsksFor plans chunks more (again.reasons ++ asks.reasons) before after
again_more plans chunks chosen number old new numbers more result before now after here not stays again kept asks =
    let segments : map segment_of (again.reasons ++ asks.reasons) ≡ map segment_of again.reasons ++ map segment_of asks.reasons = map-append segment_of again.reasons asks.reasons in
    record {
      again = record {
        reasons = again.reasons ++ asks.reasons;
        are = all-append (IsReasonAmong plans chunks) again.reasons asks.reasons again.are (each_weaker (IsReasonOf plans chosen number) (IsReasonAmong plans chunks) (reason_among plans chunks chosen number here) asks.reasons asks.are);
        direct = all-append (IsDirectAmong more) again.reasons asks.reasons (each_weaker (IsDirectAmong numbers) (IsDirectAmong more) (λ reason among is. stays reason.chunk (among is)) again.reasons again.direct) asks.direct;
        located = subst (All (λ segment. segment < length plans.locations.items)) (sym segments)
            (All-append (λ segment. segment < length plans.locations.items) (map segment_of again.reasons) (map segment_of asks.reasons) again.located asks.located);
        asked = asks.asked
            ∙ (ap (asked_for (map (location_of plans.locations.items) (map segment_of asks.reasons))) again.asked
            ∙ (asked_then (map (location_of plans.locations.items) (map segment_of again.reasons)) (map (location_of plans.locations.items) (map segment_of asks.reasons)) before.asked
            ∙ ap (λ (places : List SegmentLocation). asked_for places before.asked)
            (sym (map-append (location_of plans.locations.items) (map segment_of again.reasons) (map segment_of asks.reasons)) ∙ ap (map (location_of plans.locations.items)) (sym segments))));
        once_a_chunk = subst AreDistinct (sym (flat_map-append direct_and_segment again.reasons asks.reasons))
            (distinct_then (flat_map direct_and_segment again.reasons) (flat_map direct_and_segment asks.reasons) again.once_a_chunk asks.once_a_chunk (direct_apart plans chosen numbers number again.reasons asks.reasons not again.direct asks.are));
        once_a_take = subst AreDistinct (sym (flat_map-append take_and_segment again.reasons asks.reasons))
            (distinct_then (flat_map take_and_segment again.reasons) (flat_map take_and_segment asks.reasons) again.once_a_take asks.once_a_take
            (taken_apart (IsThroughKept plans old) (IsThroughLacking plans old) (λ one two take there lacks first second. not_both old (whole_number (plan_at plans.table take)) (there take first) (lacks take second)) again.reasons asks.reasons kept asks.lacking));
      };
      same = refl;
    }

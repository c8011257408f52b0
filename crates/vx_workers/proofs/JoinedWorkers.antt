-- What the states of all sources gave is what all workers gave together.
use Rattle.std.proofs.Common.{◌≡◌, ◌≢◌, ℕ, zero, suc, ◌<◌, ◌≤◌, ◌⊎◌, inl, inr, Bool, true, List, [], ◌∷◌, Some, None, length, map, refl, sym, ap, ◌∙◌, subst, arith}
use Rattle.std.specs.Prelude.{Option, IfSome, nat_lt, slice_index_or}
use Rattle.std.proofs.lemmas.Bool.{le-ltb}
use Rattle.std.specs.List.{All, AllByRecursion, Any, Contains, sum_by}
use Rattle.std.proofs.lemmas.List.Elements.{All-cons, All-nil}
use Rattle.std.proofs.lemmas.List.Sums.{sum_by-cons}
use Rattle.vx_rows.specs.SegmentLeaves.{Bytes, leaves_of}
use Rattle.vx_plan.specs.Plans.{plan_at}
use Rattle.vx_plan.specs.Rules.{node_at}
use Rattle.vx_steps.specs.Given.{whole_value}
use Rattle.vx_steps.specs.Held.{AreMade, AreTyped}
use Rattle.vx_steps.specs.Kept.{kept_at}
use Rattle.vx_steps.specs.KeptData.{Kept}
use Rattle.vx_splits.specs.declared.selected_rows.SelectedRows.{SelectedRows}
use Rattle.vx_claims.specs.declared.claims.Claims.{Claims}
use Rattle.vx_claims.specs.Apart.{times, times_over, once_below}
use Rattle.vx_claims.specs.Claims.{claimed, was_told}
use Rattle.vx_claims.proofs.Numbers.{times_append, times_itself, once_at_most}
use Rattle.vx_claims.proofs.Wholes.{once_apart, each_whole}
use Rattle.vx_drive.specs.declared.plans.ScanPlans.{ScanPlans}
use Rattle.vx_drive.specs.Plans.{bytes_of}
use Rattle.vx_chunks.specs.Lent.{EachSourceBy, SomeSourceBy, AllTell}
use Rattle.vx_chunks.specs.Outcomes.{data_of}
use Rattle.vx_workers.specs.declared.joins.Joined.{Joined}
use Rattle.vx_workers.specs.declared.worker_states.ChunkError.{ChunkError}
use Rattle.vx_workers.specs.declared.worker_states.WorkerState.{WorkerState}
use Rattle.vx_workers.specs.Merges.{IsAtMost, IsBelow, no_memory, IsFrom, claimed_times, IsMadeByWorker}
use Rattle.vx_workers.specs.Joins.{run_times, FailsFirst, FaultsWhereNotRan, IsRightBy, RanOrLast, JoinedAll, Joins}
use Rattle.vx_workers.specs.Borrowers.{borrower_chunks, IsBorrower, IsBorrowerBy}
use Rattle.vx_workers.specs.Workers.{HasDtype, HasItsRows, IsPieceOf, numbers_of, FailsLast, RunsSource, Ends, Worked}
use Rattle.vx_workers.proofs.WorkerEnds.{all_quiet, each_ascend, each_faults, each_stops}
use Rattle.vx_workers.proofs.WorkerFacts.{ran_times, ran_sum, Each, all_below, all_by, over_workers, ran_less, told_end}
use Rattle.vx_base.specs.Columns.{ColumnData}
use Rattle.vx_base.specs.Masks.{Ascend}
use Rattle.vx_base.specs.Sources.{SourceState}

-- no number is below want of memory
pub not_lacking : (x : ℕ) (error : Option ChunkError) → IsBelow error x → error ≢ Some no_memory
not_lacking x error below lacks = let none : x < 0 = subst (λ (one : Option ChunkError). IsBelow one x) lacks below in omega (arith, none)

-- ---- what is of one of the states

-- what holds of each element of each state's list
of_workers : {X : Type 0} (own : WorkerState → List X) (P : X → Type 0) (worker_states : List WorkerState) (xs : List X) → All (λ x. Any (λ (worker : WorkerState). Contains (own worker) x) worker_states) xs → All (λ (worker : WorkerState). All P (own worker)) worker_states → All P xs
of_workers own P worker_states xs given all k d within =
    let any = given k d within in
    let here = subst (λ (worker : WorkerState). All P (own worker)) any.3 (all any.0 any.1 any.2) in
    subst P any.4.2 (here any.4.0 (slice_index_or xs k d) any.4.1)

-- no state has anything in its list
none_of_workers : {X : Type 0} (own : WorkerState → List X) (worker_states : List WorkerState) (xs : List X) → All (λ x. Any (λ (worker : WorkerState). Contains (own worker) x) worker_states) xs → All (λ (worker : WorkerState). own worker ≡ []) worker_states → xs ≡ []
none_of_workers own worker_states [] given all = refl
none_of_workers own worker_states (x ∷ xs) given all =
    let any = given 0 x (omega arith) in
    let empty : own any.1 ≡ [] = subst (λ (worker : WorkerState). own worker ≡ []) any.3 (all any.0 any.1 any.2) in
    let within : any.4.0 < 0 = subst (λ (ys : List _). any.4.0 < length ys) empty any.4.1 in
    absurd (omega (arith, within))

-- what holds of each whole value that a state made
made_of_workers : (P : ℕ → ColumnData → Type 0) (worker_states : List WorkerState) (kept : List Kept) → ((n : ℕ) (column : ColumnData) → kept_at kept n ≡ Some column → IsMadeByWorker worker_states n column)
    → All (λ (worker : WorkerState). (n : ℕ) (column : ColumnData) → kept_at (data_of worker.handed.made.items) n ≡ Some column → P n column) worker_states → (n : ℕ) (column : ColumnData) → kept_at kept n ≡ Some column → P n column
made_of_workers P worker_states kept made all n column is =
    let any = made n column is in
    all any.0 any.1 any.2 n column (ap (λ (worker : WorkerState). kept_at (data_of worker.handed.made.items) n) any.3 ∙ any.4)

module _ (shares : Bool) (claims : Claims) (plans : ScanPlans) (chunks : List SelectedRows) where
  -- ---- all sources

  each_source : (worker_states : List WorkerState) (befores afters : List SourceState) → Each shares claims plans chunks worker_states befores afters → EachSourceBy (RunsSource shares plans chunks) (map (λ worker. worker.claimed.items) worker_states) befores afters
  each_source [] [] [] each = tt
  each_source [] [] (after ∷ afters) each = absurd each
  each_source [] (before ∷ befores) afters each = absurd each
  each_source (worker ∷ worker_states) [] afters each = absurd each
  each_source (worker ∷ worker_states) (before ∷ befores) [] each = absurd each
  each_source (worker ∷ worker_states) (before ∷ befores) (after ∷ afters) each = (each.0.runs, each_source worker_states befores afters each.1)

  -- what holds of each state by the file that all sources tell
  all_told : (Q : WorkerState → Type 0) (file : List ℕ) → ((worker : WorkerState) (before after : SourceState) → Worked shares claims plans chunks worker before after → before.file ≡ Some file → Q worker)
      → (worker_states : List WorkerState) (befores afters : List SourceState) → Each shares claims plans chunks worker_states befores afters → AllTell file befores → All Q worker_states
  all_told Q file from [] [] [] each tell = All-nil Q
  all_told Q file from [] [] (after ∷ afters) each tell = absurd each
  all_told Q file from [] (before ∷ befores) afters each tell = absurd each
  all_told Q file from (worker ∷ worker_states) [] afters each tell = absurd each
  all_told Q file from (worker ∷ worker_states) (before ∷ befores) [] each tell = absurd each
  all_told Q file from (worker ∷ worker_states) (before ∷ befores) (after ∷ afters) each tell = All-cons Q worker worker_states (from worker before after each.0 tell.0) (all_told Q file from worker_states befores afters each.1 tell.1)

  -- ---- errors

  -- an error that one of the states has
  abbrev Found : ChunkError → List WorkerState → List SourceState → List SourceState → Type 0
  Found error worker_states befores afters =
      (error ≡ no_memory) ⊎ (SomeSourceBy (FailsLast plans chunks error) (map (λ worker. worker.claimed.items) worker_states) befores afters × (1 ≤ sum_by (claimed_times error.chunk) worker_states))

  worker_error : (error : ChunkError) (found : Option ChunkError) (numbers done borrowing : List ℕ) (told : Bool) (before after : SourceState) → Ends plans chunks found numbers done borrowing told before after → found ≡ Some error
      → (error ≡ no_memory) ⊎ (FailsLast plans chunks error numbers before after × (1 ≤ times error.chunk numbers))
  worker_error error None numbers done borrowing told before after ends is = absurd cc
  worker_error error (Some one) numbers done borrowing told before after (inl stops) is =
      let same : one ≡ error = cc in
      let list = ap (times one.chunk) stops.last in
      let more = times_append one.chunk stops.earlier (one.chunk ∷ []) in
      let here = times_itself one.chunk [] in
      let stands : 1 ≤ times one.chunk numbers = omega (arith, list, more, here) in
      let fails : FailsLast plans chunks one numbers before after = record { last = (stops.earlier, stops.last); fails = stops.fails } in
      inr (subst (λ (e : ChunkError). FailsLast plans chunks e numbers before after × (1 ≤ times e.chunk numbers)) same (fails, stands))
  worker_error error (Some one) numbers done borrowing told before after (inr wants) is =
      let same : one ≡ error = cc in
      inl (sym same ∙ (λ i. record { chunk = wants.chunk i; error = wants.memory i }))

  -- every state's place
  found_at : (error : ChunkError) (k : ℕ) (d : WorkerState) (worker_states : List WorkerState) (befores afters : List SourceState) → Each shares claims plans chunks worker_states befores afters → k < length worker_states → (slice_index_or worker_states k d).error ≡ Some error → Found error worker_states befores afters
  found_at error k d [] [] [] each within is = absurd (omega (arith, within))
  found_at error k d [] [] (after ∷ afters) each within is = absurd each
  found_at error k d [] (before ∷ befores) afters each within is = absurd each
  found_at error k d (worker ∷ worker_states) [] afters each within is = absurd each
  found_at error k d (worker ∷ worker_states) (before ∷ befores) [] each within is = absurd each
  found_at error zero d (worker ∷ worker_states) (before ∷ befores) (after ∷ afters) each within is = by_case (worker_error error worker.error worker.claimed.items (numbers_of worker.pieces.items) (borrower_chunks worker.borrowers.items) (was_told worker.seat) before after each.0.ends is)
    where
      by_case : (error ≡ no_memory) ⊎ (FailsLast plans chunks error worker.claimed.items before after × (1 ≤ times error.chunk worker.claimed.items)) → Found error (worker ∷ worker_states) (before ∷ befores) (after ∷ afters)
      by_case (inl memory) = inl memory
      by_case (inr fails) =
          let cons = sum_by-cons (claimed_times error.chunk) worker worker_states in
          let list = ap (times error.chunk) each.0.claimed in
          let some = fails.1 in
          inr (inl fails.0, omega (arith, cons, list, some))
  found_at error (suc k) d (worker ∷ worker_states) (before ∷ befores) (after ∷ afters) each within is = by_case (found_at error k d worker_states befores afters each.1 (omega (arith, within)) is)
    where
      by_case : Found error worker_states befores afters → Found error (worker ∷ worker_states) (before ∷ befores) (after ∷ afters)
      by_case (inl memory) = inl memory
      by_case (inr fails) =
          let cons = sum_by-cons (claimed_times error.chunk) worker worker_states in
          let some = fails.1 in
          inr (inr fails.0, omega (arith, cons, some))

  found_from : (error : ChunkError) (worker_states : List WorkerState) (befores afters : List SourceState) → Each shares claims plans chunks worker_states befores afters → IsFrom worker_states (Some error) → Found error worker_states befores afters
  found_from error worker_states befores afters each (inl memory) = inl memory
  found_from error worker_states befores afters each (inr any) = found_at error any.0 any.1 worker_states befores afters each any.2 (ap (λ (worker : WorkerState). worker.error) any.3 ∙ any.4)

  -- ---- how often a chunk ran

  -- as often as in one of the states, unless memory lacked
  ran : (x : ℕ) (worker_states : List WorkerState) (joined : Joined) → Joins (length chunks) worker_states joined → joined.error ≢ Some no_memory → run_times x joined ≡ sum_by (ran_times x) worker_states
  ran x worker_states joined joins enough =
      let done = joins.pieces enough x in
      let borrowing = joins.borrowers enough x in
      let all = ran_sum x worker_states in
      omega (arith, done, borrowing, all)

  ran_most : (x : ℕ) (worker_states : List WorkerState) (joined : Joined) → Joins (length chunks) worker_states joined → run_times x joined ≤ sum_by (ran_times x) worker_states
  ran_most x worker_states joined joins =
      let done = joins.some_pieces x in
      let borrowing = joins.some_borrowers x in
      let all = ran_sum x worker_states in
      omega (arith, done, borrowing, all)

  -- ---- by the file that all sources tell

  right_of : (worker_states : List WorkerState) (joined : Joined) (befores afters : List SourceState) → Each shares claims plans chunks worker_states befores afters → Joins (length chunks) worker_states joined → (file : List ℕ) → AllTell file befores → IsRightBy plans chunks joined (bytes_of plans file)
  right_of worker_states joined befores afters each joins file tell =
      let bytes : Bytes = bytes_of plans file in
      record {
        pieces = of_workers (λ (worker : WorkerState). worker.pieces.items) (IsPieceOf (leaves_of bytes) plans chunks) worker_states joined.pieces.items joins.given
            (all_told (λ worker. All (IsPieceOf (leaves_of bytes) plans chunks) worker.pieces.items) file (λ worker before after worked told. worked.content file told) worker_states befores afters each tell);
        borrowers = of_workers (λ (worker : WorkerState). worker.borrowers.items) (IsBorrowerBy bytes plans chunks) worker_states joined.borrowers.items joins.given_borrowers
            (all_told (λ worker. All (IsBorrowerBy bytes plans chunks) worker.borrowers.items) file (λ worker before after worked told. worked.borrowers_by file told) worker_states befores afters each tell);
        made = made_of_workers (λ n column. whole_value (leaves_of bytes) plans.row_offset (plan_at plans.table n) ≡ Some column.values) worker_states (data_of joined.made.items) joins.made
            (all_told (λ worker. AreMade plans.table plans.row_offset (data_of worker.handed.made.items) (leaves_of bytes)) file (λ worker before after worked told. worked.made_by file told) worker_states befores afters each tell);
      }

  -- ---- the whole run

  pub joined : (worker_states : List WorkerState) (merged : Joined) (befores afters : List SourceState) → shares ≡ nat_lt 1 (length befores) → 0 < length worker_states → Each shares claims plans chunks worker_states befores afters → Joins (length chunks) worker_states merged → JoinedAll plans chunks merged befores afters
  joined worker_states merged befores afters are_shared some each joins = record {
    apart = once_apart (length chunks) merged.claimed.items (λ x. let same = over x in let once = joins.once x in omega (arith, same, once));
    whole = λ none. each_whole (length chunks) merged.claimed.items (λ x. over x ∙ whole none x);
    ascend = subst (λ (lists : List (List ℕ)). AllByRecursion Ascend lists) (sym joins.lists) (each_ascend shares claims plans chunks worker_states befores afters each);
    claimed = λ x.
        let most = ran_most x worker_states merged joins in
        let less = ran_less shares claims plans chunks x worker_states befores afters each in
        let same = over x in
        omega (arith, most, less, same);
    complete = λ none x.
        ran x worker_states merged joins (not_lacking x merged.error (subst (λ (error : Option ChunkError). IsBelow error x) (sym none) tt))
        ∙ all_below shares claims plans chunks x None worker_states befores afters each tt (at_none none) ∙ whole none x;
    right = right_of worker_states merged befores afters each joins;
    dtype = of_workers (λ (worker : WorkerState). worker.pieces.items) (HasDtype plans) worker_states merged.pieces.items joins.given (all_by (Worked shares claims plans chunks) (λ worker. All (HasDtype plans) worker.pieces.items) (λ worker before after worked. worked.dtype) worker_states befores afters each);
    rows = of_workers (λ (worker : WorkerState). worker.pieces.items) (HasItsRows plans chunks) worker_states merged.pieces.items joins.given (all_by (Worked shares claims plans chunks) (λ worker. All (HasItsRows plans chunks) worker.pieces.items) (λ worker before after worked. worked.rows) worker_states befores afters each);
    borrowers = of_workers (λ (worker : WorkerState). worker.borrowers.items) (IsBorrower plans chunks) worker_states merged.borrowers.items joins.given_borrowers (all_by (Worked shares claims plans chunks) (λ worker. All (IsBorrower plans chunks) worker.borrowers.items) (λ worker before after worked. worked.borrowers) worker_states befores afters each);
    typed = made_of_workers (λ n column. (column.dtype ≡ (node_at plans.table n).dtype) × (length column.values ≡ (node_at plans.table n).rows)) worker_states (data_of merged.made.items) joins.made
        (all_by (Worked shares claims plans chunks) (λ worker. AreTyped plans.table (data_of worker.handed.made.items)) (λ worker before after worked. worked.made) worker_states befores afters each);
    alone = λ one. none_of_workers (λ (worker : WorkerState). worker.borrowers.items) worker_states merged.borrowers.items joins.given_borrowers (all_by (Worked shares claims plans chunks) (λ worker. worker.borrowers.items ≡ []) (λ worker before after worked. worked.alone (are_shared ∙ le-ltb 1 (length befores) (omega (arith, one)))) worker_states befores afters each);
    cause = cause_of merged.error refl;
    stops = λ enough. subst (λ (lists : List (List ℕ)). AllByRecursion (RanOrLast merged) lists) (sym joins.lists) (each_stops shares claims plans chunks merged worker_states befores afters each (λ x some.
        let same = ran x worker_states merged joins enough in
        let less = ran_less shares claims plans chunks x worker_states befores afters each in
        let once = joins.once x in
        let one = once_at_most (length chunks) x in
        omega (arith, some, same, less, once, one)));
    faults = subst (λ (lists : List (List ℕ)). EachSourceBy (FaultsWhereNotRan merged) lists befores afters) (sym joins.lists) (each_faults shares claims plans chunks merged worker_states befores afters each (λ x less.
        let most = ran_most x worker_states merged joins in
        let once = joins.once x in
        let one = once_at_most (length chunks) x in
        omega (arith, less, most, once, one)));
    quiet = λ none. all_quiet shares claims plans chunks worker_states befores afters each (at_none none);
    sources = subst (λ (lists : List (List ℕ)). EachSourceBy (RunsSource (nat_lt 1 (length befores)) plans chunks) lists befores afters) (sym joins.lists)
        (subst (λ (several : Bool). EachSourceBy (RunsSource several plans chunks) (map (λ (worker : WorkerState). worker.claimed.items) worker_states) befores afters) are_shared (each_source worker_states befores afters each));
  }
    where
      over : (x : ℕ) → times_over x merged.claimed.items ≡ sum_by (claimed_times x) worker_states
      over x = ap (times_over x) joins.lists ∙ over_workers x worker_states (all_by (Worked shares claims plans chunks) (λ worker. worker.claimed.items ≡ claimed worker.seat) (λ worker before after worked. worked.claimed) worker_states befores afters each)

      at_none : merged.error ≡ None → All (λ worker. IsAtMost None worker.error) worker_states
      at_none none = subst (λ (error : Option ChunkError). All (λ (worker : WorkerState). IsAtMost error worker.error) worker_states) none joins.lowest

      whole : merged.error ≡ None → (x : ℕ) → sum_by (claimed_times x) worker_states ≡ once_below (length chunks) x
      whole none x =
          let told = all_by (Worked shares claims plans chunks) (λ worker. IsAtMost None worker.error → was_told worker.seat ≡ true) (λ worker before after worked most. told_end shares claims plans chunks worker worker.error before after most worked.ends) worker_states befores afters each in
          let least = at_none none in
          joins.whole some (λ k d within. told k d within (least k d within)) x

      first_of : (error : ChunkError) → merged.error ≡ Some error → Found error worker_states befores afters → (error ≡ no_memory) ⊎ FailsFirst plans chunks error merged befores afters
      first_of error is (inl memory) = inl memory
      first_of error is (inr found) = inr record {
        fails = subst (λ (lists : List (List ℕ)). SomeSourceBy (FailsLast plans chunks error) lists befores afters) (sym joins.lists) found.0;
        lower = λ x less.
            let below = subst (λ (one : Option ChunkError). IsBelow one x) (sym is) less in
            ran x worker_states merged joins (not_lacking x merged.error below) ∙ all_below shares claims plans chunks x merged.error worker_states befores afters each below joins.lowest ∙ joins.lower x error.chunk found.1 less;
      }

      cause_of : (error : Option ChunkError) → merged.error ≡ error → IfSome error (λ one. (one ≡ no_memory) ⊎ FailsFirst plans chunks one merged befores afters)
      cause_of None is = tt
      cause_of (Some error) is = first_of error is (found_from error worker_states befores afters each (subst (IsFrom worker_states) is joins.from))

-- How the workers of all states end: each stops at the first of its chunks that fails, and where a call on its source
-- fails.
use Rattle.std.proofs.Common.{◌≡◌, ℕ, ◌+◌, ◌<◌, ◌≤◌, ◌⊎◌, inl, inr, List, [], ◌∷◌, ◌++◌, Some, None, map, sym, ap, ◌∙◌, arith}
use native.Mathlib.Decide.{ℕ_discrete}
use mathlib.Core.Logic.{dite}
use Rattle.std.specs.Prelude.{Bool, IsSomeAnd, Option}
use Rattle.std.specs.List.{All, AllByRecursion, sum_by}
use Rattle.std.proofs.lemmas.List.Elements.{All-head, All-tail}
use Rattle.std.proofs.lemmas.List.Sums.{sum_by-cons}
use Rattle.vx_rows.specs.Reads.{IsAmong}
use Rattle.vx_splits.specs.declared.selected_rows.SelectedRows.{SelectedRows}
use Rattle.vx_claims.specs.declared.claims.Claims.{Claims}
use Rattle.vx_claims.specs.Apart.{times}
use Rattle.vx_claims.specs.Claims.{was_told}
use Rattle.vx_claims.proofs.Numbers.{times_append, times_itself, times_other}
use Rattle.vx_drive.specs.declared.errors.ScanError.TheVariants.{ReadFault, Memory}
use Rattle.vx_drive.specs.declared.plans.ScanPlans.{ScanPlans}
use Rattle.vx_drive.specs.Asks.{KeepsFaults}
use Rattle.vx_chunks.specs.Lent.{EachSource, EachSourceBy}
use Rattle.vx_workers.specs.declared.joins.Joined.{Joined}
use Rattle.vx_workers.specs.declared.worker_states.ChunkError.{ChunkError}
use Rattle.vx_workers.specs.declared.worker_states.WorkerState.{WorkerState}
use Rattle.vx_workers.specs.Merges.{IsAtMost, claimed_times}
use Rattle.vx_workers.specs.Joins.{run_times, FaultsWhereNotRan, RanOrLast}
use Rattle.vx_workers.specs.Borrowers.{borrower_chunks}
use Rattle.vx_workers.specs.Workers.{numbers_of, Ends, IsLast}
use Rattle.vx_workers.proofs.WorkerFacts.{ran_times, Each, worker_ran, ran_less}
use Rattle.vx_base.specs.Masks.{Ascend}
use Rattle.vx_base.specs.Sources.{SourceState}

pub among_stands : (x : ℕ) (numbers : List ℕ) → IsAmong x numbers → 1 ≤ times x numbers
among_stands x [] among = absurd among
among_stands x (n ∷ ns) (inl same) =
    let here : times x (n ∷ ns) ≡ 1 + times x ns = ap (λ (m : ℕ). times x (m ∷ ns)) same ∙ times_itself x ns in
    omega (arith, here)
among_stands x (n ∷ ns) (inr among) =
    let rest = among_stands x ns among in
    let more : times x (n ∷ ns) ≡ times x (n ∷ []) + times x ns = times_append x (n ∷ []) ns in
    omega (arith, rest, more)

-- whether an error is that a read failed
abbrev FailedToRead : Option ChunkError → Type 0
FailedToRead error = IsSomeAnd error (λ one. one.error ≡ ReadFault)

module _ (shares : Bool) (claims : Claims) (plans : ScanPlans) (chunks : List SelectedRows) where
  -- ---- each state's numbers ascend

  pub each_ascend : (worker_states : List WorkerState) (befores afters : List SourceState) → Each shares claims plans chunks worker_states befores afters → AllByRecursion Ascend (map (λ worker. worker.claimed.items) worker_states)
  each_ascend [] befores afters each = tt
  each_ascend (worker ∷ worker_states) [] afters each = absurd each
  each_ascend (worker ∷ worker_states) (before ∷ befores) [] each = absurd each
  each_ascend (worker ∷ worker_states) (before ∷ befores) (after ∷ afters) each = (each.0.ascend, each_ascend worker_states befores afters each.1)

  -- ---- each stops at a chunk that fails

  done_or_last : (x : ℕ) (error : Option ChunkError) (numbers done borrowing : List ℕ) (told : Bool) (before after : SourceState) → Ends plans chunks error numbers done borrowing told before after → 1 ≤ times x numbers → (1 ≤ times x done + times x borrowing) ⊎ IsLast x numbers
  done_or_last x None numbers done borrowing told before after ends some = let same = ends.0 x in inl (omega (arith, same, some))
  done_or_last x (Some error) numbers done borrowing told before after (inl stops) some = dite (ℕ_discrete error.chunk x)
      (λ same. inr (stops.earlier, stops.last ∙ ap (λ (n : ℕ). stops.earlier ++ n ∷ []) same))
      (λ differs.
      let list = ap (times x) stops.last in
      let more = times_append x stops.earlier (error.chunk ∷ []) in
      let other = times_other x error.chunk [] differs in
      let same = stops.all_done x in
      inl (omega (arith, some, list, more, other, same)))
  done_or_last x (Some error) numbers done borrowing told before after (inr wants) some = let same = wants.all x in inl (omega (arith, same, some))

  -- what ran in one of the states is among what ran
  pub each_stops : (joined : Joined) (worker_states : List WorkerState) (befores afters : List SourceState) → Each shares claims plans chunks worker_states befores afters → ((x : ℕ) → 1 ≤ sum_by (ran_times x) worker_states → run_times x joined ≡ 1)
      → AllByRecursion (RanOrLast joined) (map (λ worker. worker.claimed.items) worker_states)
  each_stops joined [] befores afters each given = tt
  each_stops joined (worker ∷ worker_states) [] afters each given = absurd each
  each_stops joined (worker ∷ worker_states) (before ∷ befores) [] each given = absurd each
  each_stops joined (worker ∷ worker_states) (before ∷ befores) (after ∷ afters) each given = (
    (λ x among. by_case x (done_or_last x worker.error worker.claimed.items (numbers_of worker.pieces.items) (borrower_chunks worker.borrowers.items) (was_told worker.seat) before after each.0.ends (among_stands x worker.claimed.items among))),
    each_stops joined worker_states befores afters each.1 (λ x some. let cons = sum_by-cons (ran_times x) worker worker_states in given x (omega (arith, cons, some))),
  )
    where
      by_case : (x : ℕ) → (1 ≤ times x (numbers_of worker.pieces.items) + times x (borrower_chunks worker.borrowers.items)) ⊎ IsLast x worker.claimed.items → (run_times x joined ≡ 1) ⊎ IsLast x worker.claimed.items
      by_case x (inl some) = let cons = sum_by-cons (ran_times x) worker worker_states in inl (given x (omega (arith, cons, some)))
      by_case x (inr last) = inr last

  -- ---- and where a call on its source fails

  -- the last chunk was claimed and did not run
  abbrev LeavesLast : List ℕ → List ℕ → List ℕ → Type 0
  LeavesLast numbers done borrowing = (last : ℕ) × IsLast last numbers × (times last numbers ≡ times last done + times last borrowing + 1)

  worker_faults : (error : Option ChunkError) (numbers done borrowing : List ℕ) (told : Bool) (before after : SourceState) → Ends plans chunks error numbers done borrowing told before after → KeepsFaults before after ⊎ FailedToRead error → KeepsFaults before after ⊎ LeavesLast numbers done borrowing
  worker_faults error numbers done borrowing told before after ends (inl same) = inl same
  worker_faults None numbers done borrowing told before after ends (inr fault) = absurd fault
  worker_faults (Some error) numbers done borrowing told before after (inl stops) (inr fault) =
      let list = ap (times error.chunk) stops.last in
      let more = times_append error.chunk stops.earlier (error.chunk ∷ []) in
      let one = times_itself error.chunk [] in
      let same = stops.all_done error.chunk in
      inr (error.chunk, (stops.earlier, stops.last), omega (arith, list, more, one, same))
  worker_faults (Some error) numbers done borrowing told before after (inr wants) (inr fault) = absurd (let both : Memory ≡ ReadFault = sym wants.memory ∙ fault in cc)

  -- what a state claimed and none ran is not among what ran
  pub each_faults : (joined : Joined) (worker_states : List WorkerState) (befores afters : List SourceState) → Each shares claims plans chunks worker_states befores afters → ((x : ℕ) → sum_by (ran_times x) worker_states < sum_by (claimed_times x) worker_states → run_times x joined ≡ 0)
      → EachSourceBy (FaultsWhereNotRan joined) (map (λ worker. worker.claimed.items) worker_states) befores afters
  each_faults joined [] [] [] each lacking = tt
  each_faults joined [] [] (after ∷ afters) each lacking = absurd each
  each_faults joined [] (before ∷ befores) afters each lacking = absurd each
  each_faults joined (worker ∷ worker_states) [] afters each lacking = absurd each
  each_faults joined (worker ∷ worker_states) (before ∷ befores) [] each lacking = absurd each
  each_faults joined (worker ∷ worker_states) (before ∷ befores) (after ∷ afters) each lacking = (
    by_case (worker_faults worker.error worker.claimed.items (numbers_of worker.pieces.items) (borrower_chunks worker.borrowers.items) (was_told worker.seat) before after each.0.ends each.0.faults),
    each_faults joined worker_states befores afters each.1 (λ x less.
        let done = sum_by-cons (ran_times x) worker worker_states in
        let all = sum_by-cons (claimed_times x) worker worker_states in
        let here = worker_ran shares claims plans chunks x worker before after each.0 in
        lacking x (omega (arith, less, done, all, here))),
  )
    where
      by_case : KeepsFaults before after ⊎ LeavesLast worker.claimed.items (numbers_of worker.pieces.items) (borrower_chunks worker.borrowers.items) → FaultsWhereNotRan joined worker.claimed.items before after
      by_case (inl same) = inl same
      by_case (inr (last, is, more)) =
          let done = sum_by-cons (ran_times last) worker worker_states in
          let all = sum_by-cons (claimed_times last) worker worker_states in
          let list = ap (times last) each.0.claimed in
          let rest = ran_less shares claims plans chunks last worker_states befores afters each.1 in
          inr (last, is, lacking last (omega (arith, more, done, all, list, rest)))

  -- no call failed where no state has an error
  none_failed : (error : Option ChunkError) (before after : SourceState) → IsAtMost None error → KeepsFaults before after ⊎ FailedToRead error → KeepsFaults before after
  none_failed error before after most (inl same) = same
  none_failed None before after most (inr fault) = absurd fault
  none_failed (Some error) before after most (inr fault) = absurd most

  pub all_quiet : (worker_states : List WorkerState) (befores afters : List SourceState) → Each shares claims plans chunks worker_states befores afters → All (λ worker. IsAtMost None worker.error) worker_states → EachSource KeepsFaults befores afters
  all_quiet [] [] [] each none = tt
  all_quiet [] [] (after ∷ afters) each none = absurd each
  all_quiet [] (before ∷ befores) afters each none = absurd each
  all_quiet (worker ∷ worker_states) [] afters each none = absurd each
  all_quiet (worker ∷ worker_states) (before ∷ befores) [] each none = absurd each
  all_quiet (worker ∷ worker_states) (before ∷ befores) (after ∷ afters) each none = (
    none_failed worker.error before after (All-head (λ (one : WorkerState). IsAtMost None one.error) worker worker_states none) each.0.faults,
    all_quiet worker_states befores afters each.1 (All-tail (λ (one : WorkerState). IsAtMost None one.error) worker worker_states none),
  )

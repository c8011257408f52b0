-- What the workers of all sources asked for: a share of each, among which no chunk and segment stands twice.
use Rattle.std.proofs.Common.{◌≡◌, ◌≢◌, ℕ, ◌+◌, ◌≤◌, Bool, List, [], ◌∷◌, map, sym, ap, subst, arith}
use Rattle.std.specs.List.{AllByRecursion, flat_map}
use Rattle.std.proofs.lemmas.List.{map-append}
use Rattle.std.proofs.lemmas.List.Sums.{sum_by-cons}
use Rattle.vx_base.specs.Sources.{SourceState}
use Rattle.vx_base.proofs.AllFit.{all-append}
use Rattle.vx_claims.specs.Apart.{times, times_over}
use Rattle.vx_rows.specs.Reads.{IsAmong}
use Rattle.vx_splits.specs.declared.selected_rows.SelectedRows.{SelectedRows}
use Rattle.vx_drive.specs.declared.plans.ScanPlans.{ScanPlans}
use Rattle.vx_drive.specs.Fetched.{AreDistinct}
use Rattle.vx_drive.proofs.Distinct.{distinct_none, distinct_then, apart_from}
use Rattle.vx_chunks.specs.Lent.{EachSource, EachSourceBy}
use Rattle.vx_workers.specs.Reasons.{Reason, chunk_and_segment}
use Rattle.vx_workers.specs.Workers.{AsksReached, RunsSource}
use Rattle.vx_workers.proofs.WorkerEnds.{among_stands}
use Rattle.vx_workers.proofs.Certifying.{each_weaker}
use Rattle.vx_scan.specs.Batches.{Share, reasons_in}

module _ (several : Bool) (plans : ScanPlans) (chunks : List SelectedRows) where
  abbrev pub Ran : List (List ℕ) → List SourceState → List SourceState → Type 0
  Ran lists befores afters = EachSourceBy (RunsSource several plans chunks) lists befores afters

  abbrev pub AsksShares : List Share → List SourceState → List SourceState → Type 0
  AsksShares shares befores afters = EachSourceBy (λ (share : Share). AsksReached several plans chunks share.numbers share.reasons) shares befores afters

  -- the chunk of the reason stands in the lists
  abbrev pub IsClaimed : List (List ℕ) → Reason → Type 0
  IsClaimed lists reason = 1 ≤ times_over reason.chunk lists

  -- The shares of the sources whose workers claimed these lists.
  pub record Shared (lists : List (List ℕ)) (befores afters : List SourceState) : Type 0 where
    pub shares : List Share
    pub each : AsksShares shares befores afters
    pub claimed : AllByRecursion (IsClaimed lists) (flat_map reasons_in shares)
    pub distinct : AreDistinct (map chunk_and_segment (flat_map reasons_in shares))

  over_cons : (x : ℕ) (list : List ℕ) (lists : List (List ℕ)) → times_over x (list ∷ lists) ≡ times x list + times_over x lists
  over_cons x list lists = sum_by-cons (times x) list lists

  claimed_here : (list : List ℕ) (lists : List (List ℕ)) (reason : Reason) → IsAmong reason.chunk list → IsClaimed (list ∷ lists) reason
  claimed_here list lists reason among = let stands = among_stands reason.chunk list among in let cons = over_cons reason.chunk list lists in omega (arith, stands, cons)

  claimed_behind : (list : List ℕ) (lists : List (List ℕ)) (reason : Reason) → IsClaimed lists reason → IsClaimed (list ∷ lists) reason
  claimed_behind list lists reason claimed = let cons = over_cons reason.chunk list lists in omega (arith, claimed, cons)

  -- a reason of this list's chunks is none of the other lists' chunks
  differ : (list : List ℕ) (lists : List (List ℕ)) → ((x : ℕ) → times_over x (list ∷ lists) ≤ 1) → (one two : Reason) → IsAmong one.chunk list → IsClaimed lists two → chunk_and_segment one ≢ chunk_and_segment two
  differ list lists once one two among claimed same =
      let chunk : one.chunk ≡ two.chunk = ap (λ (pair : ℕ × ℕ). pair.0) same in
      let stands : 1 ≤ times two.chunk list = subst (λ (x : ℕ). 1 ≤ times x list) chunk (among_stands one.chunk list among) in
      let most = once two.chunk in
      let cons = over_cons two.chunk list lists in
      absurd (omega (arith, stands, claimed, most, cons))

  pub shared : (lists : List (List ℕ)) (befores afters : List SourceState) → ((x : ℕ) → times_over x lists ≤ 1) → Ran lists befores afters → Shared lists befores afters
  shared [] [] [] once ran = record { shares = []; each = tt; claimed = tt; distinct = distinct_none }
  shared [] [] (after ∷ afters) once ran = absurd ran
  shared [] (before ∷ befores) afters once ran = absurd ran
  shared (list ∷ lists) [] afters once ran = absurd ran
  shared (list ∷ lists) (before ∷ befores) [] once ran = absurd ran
  shared (list ∷ lists) (before ∷ befores) (after ∷ afters) once ran =
      let rest = shared lists befores afters (λ x. let most = once x in let cons = over_cons x list lists in omega (arith, most, cons)) ran.1 in
      let mine : List Reason = ran.0.reasons in
      let others : List Reason = flat_map reasons_in rest.shares in
      record {
        shares = record { numbers = list; reasons = mine } ∷ rest.shares;
        each = (ran.0.asks, rest.each);
        claimed = all-append (IsClaimed (list ∷ lists)) mine others
            (each_weaker (λ (reason : Reason). IsAmong reason.chunk list) (IsClaimed (list ∷ lists)) (claimed_here list lists) mine ran.0.asks.own)
            (each_weaker (IsClaimed lists) (IsClaimed (list ∷ lists)) (claimed_behind list lists) others rest.claimed);
        distinct = subst (λ (pairs : List (ℕ × ℕ)). AreDistinct pairs) (sym (map-append chunk_and_segment mine others))
            (distinct_then (map chunk_and_segment mine) (map chunk_and_segment others) ran.0.asks.once_a_chunk rest.distinct
            (apart_from (λ (reason : Reason). IsAmong reason.chunk list) (IsClaimed lists) chunk_and_segment (differ list lists once) mine others ran.0.asks.own rest.claimed));
      }

  -- what follows of each source
  pub each_from : (P : SourceState → SourceState → Type 0) → ((list : List ℕ) (before after : SourceState) → RunsSource several plans chunks list before after → P before after)
      → (lists : List (List ℕ)) (befores afters : List SourceState) → Ran lists befores afters → EachSource P befores afters
  each_from P from [] [] [] ran = tt
  each_from P from [] [] (after ∷ afters) ran = absurd ran
  each_from P from [] (before ∷ befores) afters ran = absurd ran
  each_from P from (list ∷ lists) [] afters ran = absurd ran
  each_from P from (list ∷ lists) (before ∷ befores) [] ran = absurd ran
  each_from P from (list ∷ lists) (before ∷ befores) (after ∷ afters) ran = (from list before after ran.0, each_from P from lists befores afters ran.1)

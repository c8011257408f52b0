-- What all workers gave together, and what came of the chunks that ran with borrowed values, is what the whole run gives.
use Rattle.std.proofs.Common.{◌≡◌, ◌≢◌, ℕ, ◌<◌, ◌≤◌, ◌⊎◌, inl, inr, Bool, List, [], ◌∷◌, Some, None, length, map, refl, sym, ap, ◌∙◌, subst, arith}
use Rattle.std.specs.Prelude.{Option, IfSome, IsSomeAnd, nat_lt, slice_index_or, slice_set}
use native.Mathlib.Decide.{ℕ_discrete}
use mathlib.Core.Logic.{dite}
use Rattle.std.specs.List.{All, AllByRecursion}
use Rattle.std.specs.List.Sorted.{IsNonDecreasingBy}
use Rattle.std.proofs.lemmas.Bool.{cases_lt, lt-ltb}
use Rattle.std.proofs.lemmas.List.{length-map, get_or-map}
use Rattle.std.proofs.lemmas.List.Elements.{All-head, All-tail}
use Rattle.std.proofs.lemmas.Option.{slice_get_within}
use Rattle.vx_rows.specs.SegmentLeaves.{Bytes, leaves_of}
use Rattle.vx_plan.specs.Plans.{plan_at}
use Rattle.vx_plan.specs.Refs.{number_of}
use Rattle.vx_steps.specs.Given.{whole_value}
use Rattle.vx_steps.specs.KeptData.{Kept}
use Rattle.vx_splits.specs.declared.selected_rows.SelectedRows.{SelectedRows}
use Rattle.vx_claims.specs.Apart.{times, times_over, AreApart, AreWhole}
use Rattle.vx_claims.proofs.Numbers.{once_yes, times_other}
use Rattle.vx_drive.specs.declared.errors.ScanError.{ScanError}
use Rattle.vx_drive.specs.declared.errors.ScanError.TheVariants.{BadProjection, OffsetOverflow, OutOfRange, Unsupported, NoLocation, ReadFault, Stalled, BadSegment, BadCode, EvalFault, Memory}
use Rattle.vx_drive.specs.declared.plans.ScanPlans.{ScanPlans}
use Rattle.vx_drive.specs.Asks.{KeepsFaults}
use Rattle.vx_chunks.specs.Lent.{EachSourceBy, SomeSourceBy, AllTell}
use Rattle.vx_chunks.specs.Outcomes.{told_by_all, Causes, Claims}
use Rattle.vx_chunks.proofs.LentSources.{each_by, each_first}
use Rattle.vx_workers.specs.declared.joins.Joined.{Joined}
use Rattle.vx_workers.specs.declared.worker_states.ChunkError.{ChunkError}
use Rattle.vx_workers.specs.declared.worker_states.Borrower.{Borrower}
use Rattle.vx_workers.specs.declared.worker_states.Piece.{Piece}
use Rattle.vx_workers.specs.Merges.{IsAtMost, IsBelow, no_memory}
use Rattle.vx_workers.specs.Joins.{run_times, FailsFirst, FaultsWhereNotRan, JoinedAll, RanOrLast}
use Rattle.vx_workers.specs.Borrowers.{borrower_chunks, AsksForWholes, IsAsking, IsBorrower}
use Rattle.vx_workers.specs.Unhindered.{IsUnhindered}
use Rattle.vx_workers.specs.Workers.{IsPieceOf, numbers_of, IsLast, FailsLast, RunsSource}
use Rattle.vx_workers.proofs.Certifying.{each_weaker}
use Rattle.vx_workers.proofs.JoinedWorkers.{not_lacking}
use Rattle.vx_workers.proofs.BorrowerChunks.{borrower_asks}
use Rattle.vx_execute.specs.declared.outcomes.Outcome.{Outcome}
use Rattle.vx_execute.specs.declared.outcomes.Rerun.{Rerun}
use Rattle.vx_execute.specs.Executes.{FailsLowest, FaultsAtLast, MayHaveBorrowed, StopsAtLast, Executed}
use Rattle.vx_execute.specs.Validating.{FailsValidated, IsRerun, Validates, told_right}
use Rattle.vx_execute.proofs.Ascending.{in_order_once}
use Rattle.vx_base.specs.Masks.{Ascend}
use Rattle.vx_base.specs.Sources.{SourceState}

-- ---- lists

numbers_in_order : (pieces : List Piece) → IsNonDecreasingBy (λ piece. piece.chunk) pieces → (i j : ℕ) (d : ℕ) → i ≤ j → j < length (numbers_of pieces) → slice_index_or (numbers_of pieces) i d ≤ slice_index_or (numbers_of pieces) j d
numbers_in_order [] sorted i j d le lt = absurd (omega (arith, lt))
numbers_in_order (piece ∷ pieces) sorted i j d le lt =
    let size = length-map (piece ∷ pieces) (λ (one : Piece). one.chunk) in
    let lower = sorted i j piece le (omega (arith, lt, size)) in
    let one = get_or-map (λ (other : Piece). other.chunk) (piece ∷ pieces) i piece d (omega (arith, le, lt, size)) in
    let two = get_or-map (λ (other : Piece). other.chunk) (piece ∷ pieces) j piece d (omega (arith, lt, size)) in
    omega (arith, lower, one, two)

-- ---- chunks that ran with borrowed values ask for whole ones

has_borrower_chunks : (plans : ScanPlans) (chunks : List SelectedRows) (x : ℕ) (borrowers : List Borrower) → 1 ≤ times x (borrower_chunks borrowers) → All (IsBorrower plans chunks) borrowers → IsAsking plans chunks x
has_borrower_chunks plans chunks x [] some are = absurd (omega (arith, some))
has_borrower_chunks plans chunks x (borrower ∷ borrowers) some are = dite (ℕ_discrete borrower.chunk x)
    (λ same. subst (IsAsking plans chunks) same (borrower_asks plans chunks borrower (All-head (IsBorrower plans chunks) borrower borrowers are)))
    (λ differs.
    let other = times_other x borrower.chunk (borrower_chunks borrowers) differs in
    has_borrower_chunks plans chunks x borrowers (omega (arith, other, some)) (All-tail (IsBorrower plans chunks) borrower borrowers are))

-- ---- errors

-- where there is no error, there was none before
none_before : (error old : Option ChunkError) → error ≡ None → IsAtMost error old → old ≡ None
none_before error None none most = refl
none_before error (Some one) none most = absurd (subst (λ (e : Option ChunkError). IsAtMost e (Some one)) none most)

-- ---- what is told

causes_from : (Told Others : Claims) → ((P : Bytes → Type 0) → Told P → Others P) → (plans : ScanPlans) (given : List Kept) (chosen : SelectedRows) (error : ScanError) (before after : SourceState) → Causes Told plans given chosen error before after → Causes Others plans given chosen error before after
causes_from Told Others from plans given chosen BadProjection before after cause = cause
causes_from Told Others from plans given chosen OffsetOverflow before after cause = cause
causes_from Told Others from plans given chosen OutOfRange before after cause = cause
causes_from Told Others from plans given chosen (Unsupported list) before after cause = cause
causes_from Told Others from plans given chosen (NoLocation segment) before after cause = cause
causes_from Told Others from plans given chosen ReadFault before after cause = cause
causes_from Told Others from plans given chosen Stalled before after cause = cause
causes_from Told Others from plans given chosen (BadSegment segment) before after cause = from _ cause
causes_from Told Others from plans given chosen (BadCode code_take row) before after cause = from _ cause
causes_from Told Others from plans given chosen (EvalFault row) before after cause = from _ cause
causes_from Told Others from plans given chosen Memory before after cause = tt

reruns_from : (Told Others : Claims) → ((P : Bytes → Type 0) → Told P → Others P) → (plans : ScanPlans) (chunks : List SelectedRows) (reruns : List Rerun) → AllByRecursion (IsRerun plans chunks Told) reruns → AllByRecursion (IsRerun plans chunks Others) reruns
reruns_from Told Others from plans chunks [] each = tt
reruns_from Told Others from plans chunks (rerun ∷ reruns) each = (
  record {
    chunk = each.0.chunk;
    here = each.0.here;
    asks = each.0.asks;
    borrowed = each.0.borrowed;
    made = each.0.made;
    differ = each.0.differ;
    whole = from (λ bytes. whole_value (leaves_of bytes) plans.row_offset (plan_at plans.table (number_of rerun.node)) ≡ Some rerun.made.values) each.0.whole;
  },
  reruns_from Told Others from plans chunks reruns each.1,
)

-- the first source still tells the file that all told
first_tells : (shares : Bool) (plans : ScanPlans) (chunks : List SelectedRows) (file : List ℕ) (lists : List (List ℕ)) (befores : List SourceState) (first : SourceState) (others : List SourceState) → EachSourceBy (RunsSource shares plans chunks) lists befores (first ∷ others) → AllTell file befores → first.file ≡ Some file
first_tells shares plans chunks file [] [] first others each tell = absurd each
first_tells shares plans chunks file [] (before ∷ befores) first others each tell = absurd each
first_tells shares plans chunks file (list ∷ lists) [] first others each tell = absurd each
first_tells shares plans chunks file (list ∷ lists) (before ∷ befores) first others each tell = each.0.lasts.file ∙ tell.0

-- ---- the whole run

module _ (plans : ScanPlans) (chunks : List SelectedRows) (joined : Joined) (outcome : Outcome) (befores : List SourceState) (first : SourceState) (others : List SourceState) (after : SourceState) (some : 0 < length befores)
    (gives : JoinedAll plans chunks joined befores (first ∷ others)) (validates : Validates plans chunks joined outcome first after) where
  by_all : (P : Bytes → Type 0) → told_right plans chunks joined first P → told_by_all plans befores P
  by_all P told file tell = told file (first_tells (nat_lt 1 (length befores)) plans chunks file joined.claimed.items befores first others gives.sources tell) (gives.right file tell)

  over : (x : ℕ) → times_over x outcome.claimed.items ≡ times_over x joined.claimed.items
  over x = ap (times_over x) validates.lists

  none_joined : outcome.error ≡ None → joined.error ≡ None
  none_joined none = none_before outcome.error joined.error none validates.lowest

  -- a chunk below the one that failed has its piece if it ran
  piece_below : (x : ℕ) → IsBelow outcome.error x → times x (numbers_of outcome.pieces.items) ≡ run_times x joined
  piece_below x below = validates.all_pieces (not_lacking x outcome.error below) x below

  below_error : (error : ChunkError) → outcome.error ≡ Some error → (x : ℕ) → x < error.chunk → IsBelow outcome.error x
  below_error error is x less = subst (λ (one : Option ChunkError). IsBelow one x) (sym is) less

  piece_before : outcome.error ≡ None → (x : ℕ) → times x (numbers_of outcome.pieces.items) ≡ run_times x joined
  piece_before none x = piece_below x (subst (λ (error : Option ChunkError). IsBelow error x) (sym none) tt)

  -- a chunk below one that failed now ran
  ran_below : (error : ChunkError) → error.chunk < length chunks → (old : Option ChunkError) → joined.error ≡ old → IsAtMost (Some error) old → (x : ℕ) → x < error.chunk → run_times x joined ≡ 1
  ran_below error inside None is most x less = gives.complete is x ∙ once_yes (length chunks) x (omega (arith, less, inside))
  ran_below error inside (Some one) is most x less = by_cause (subst (λ (e : Option ChunkError). IfSome e (λ failed. (failed ≡ no_memory) ⊎ FailsFirst plans chunks failed joined befores (first ∷ others))) is gives.cause)
    where
      by_cause : (one ≡ no_memory) ⊎ FailsFirst plans chunks one joined befores (first ∷ others) → run_times x joined ≡ 1
      by_cause (inl memory) = let none : one.chunk ≡ 0 = ap (λ (e : ChunkError). e.chunk) memory in absurd (omega (arith, less, most, none))
      by_cause (inr fails) = fails.lower x (omega (arith, less, most))

  validated_below : (error : ChunkError) → outcome.error ≡ Some error → FailsValidated plans chunks joined error first after → (x : ℕ) → x < error.chunk → times x (numbers_of outcome.pieces.items) ≡ 1
  validated_below error is fails x less =
      piece_below x (below_error error is x less)
      ∙ ran_below error (slice_get_within chunks error.chunk fails.chunk fails.here) joined.error refl (subst (λ (one : Option ChunkError). IsAtMost one joined.error) is validates.lowest) x less

  -- a chunk had borrowed: so its worker isn't alone
  borrower_chunks_more : (x : ℕ) → 1 ≤ times x (borrower_chunks joined.borrowers.items) → 1 < length befores
  borrower_chunks_more x borrowing = by_order (cases_lt 1 (length befores))
    where
      by_order : (1 < length befores) ⊎ (length befores ≤ 1) → 1 < length befores
      by_order (inl more) = more
      by_order (inr most) =
          let none : times x (borrower_chunks joined.borrowers.items) ≡ 0 = ap (λ (borrowers : List Borrower). times x (borrower_chunks borrowers)) (gives.alone (omega (arith, some, most))) in
          absurd (omega (arith, none, borrowing))

  -- ---- why there are no batches

  old_fails : (error : ChunkError) → outcome.error ≡ Some error → joined.error ≡ Some error → (error ≡ no_memory) ⊎ FailsFirst plans chunks error joined befores (first ∷ others) → (error ≡ no_memory) ⊎ FailsLowest plans chunks error outcome.pieces.items outcome.claimed.items befores (first ∷ others) (after ∷ others)
  old_fails error is old (inl memory) = inl memory
  old_fails error is old (inr fails) = inr record {
    fails = inl (subst (λ (lists : List (List ℕ)). SomeSourceBy (FailsLast plans chunks error) lists befores (first ∷ others)) (sym validates.lists) fails.fails);
    lower = λ x less. piece_below x (below_error error is x less) ∙ fails.lower x less;
  }

  lowest_of : (error : ChunkError) → outcome.error ≡ Some error → (error ≡ no_memory) ⊎ ((joined.error ≡ Some error) ⊎ FailsValidated plans chunks joined error first after)
      → (error ≡ no_memory) ⊎ FailsLowest plans chunks error outcome.pieces.items outcome.claimed.items befores (first ∷ others) (after ∷ others)
  lowest_of error is (inl memory) = inl memory
  lowest_of error is (inr (inl old)) = old_fails error is old (subst (λ (e : Option ChunkError). IfSome e (λ failed. (failed ≡ no_memory) ⊎ FailsFirst plans chunks failed joined befores (first ∷ others))) old gives.cause)
  lowest_of error is (inr (inr fails)) =
      let borrowing = fails.borrowing in
      let most = gives.claimed error.chunk in
      let same = over error.chunk in
      inr record {
        fails = inr (
          borrower_chunks_more error.chunk fails.borrowing,
          omega (arith, borrowing, most, same),
          (
            record {
              chunk = fails.chunk;
              here = fails.here;
              asks = (subst (λ (got : Option SelectedRows). IsSomeAnd got (λ chunk. AsksForWholes plans chunk × IsUnhindered plans chunk)) fails.here (has_borrower_chunks plans chunks error.chunk joined.borrowers.items fails.borrowing gives.borrowers)).0;
              cause = causes_from (told_right plans chunks joined first) (told_by_all plans befores) by_all plans [] fails.chunk error.error first after fails.cause;
            },
            refl,
          ),
        );
        lower = validated_below error is fails;
      }

  cause_of : (error : Option ChunkError) → outcome.error ≡ error → IfSome error (λ one. (one ≡ no_memory) ⊎ FailsLowest plans chunks one outcome.pieces.items outcome.claimed.items befores (first ∷ others) (after ∷ others))
  cause_of None is = tt
  cause_of (Some error) is = lowest_of error is (subst (λ (e : Option ChunkError). IfSome e (λ one. (one ≡ no_memory) ⊎ ((joined.error ≡ Some one) ⊎ FailsValidated plans chunks joined one first after))) is validates.cause)

  -- ---- where the workers stopped

  abbrev Stop : ℕ → List ℕ → Type 0
  Stop x numbers = (times x (numbers_of outcome.pieces.items) ≡ 1) ⊎ (IsLast x numbers ⊎ MayHaveBorrowed plans chunks (nat_lt 1 (length befores)) outcome.error x)

  abbrev Stops : List ℕ → Type 0
  Stops numbers = StopsAtLast plans chunks (nat_lt 1 (length befores)) outcome.error outcome.pieces.items numbers

  -- what ran has its piece, or had borrowed
  piece_or_borrower : outcome.error ≢ Some no_memory → (x : ℕ) → run_times x joined ≡ 1 → (times x (numbers_of outcome.pieces.items) ≡ 1) ⊎ (1 ≤ times x (borrower_chunks joined.borrowers.items))
  piece_or_borrower enough x ran = by_order (cases_lt 0 (times x (borrower_chunks joined.borrowers.items)))
    where
      by_order : (0 < times x (borrower_chunks joined.borrowers.items)) ⊎ (times x (borrower_chunks joined.borrowers.items) ≤ 0) → (times x (numbers_of outcome.pieces.items) ≡ 1) ⊎ (1 ≤ times x (borrower_chunks joined.borrowers.items))
      by_order (inl some_borrowers) = inr (omega (arith, some_borrowers))
      by_order (inr none) = let least = validates.old_pieces enough x in let most = validates.some_pieces x in inl (omega (arith, none, least, most, ran))

  -- and then lies no lower than the chunk that failed
  ran_over : (error : ChunkError) → outcome.error ≡ Some error → (x : ℕ) (numbers : List ℕ) → run_times x joined ≡ 1 → (x < error.chunk) ⊎ (error.chunk ≤ x) → (times x (numbers_of outcome.pieces.items) ≡ 1) ⊎ (1 ≤ times x (borrower_chunks joined.borrowers.items)) → Stop x numbers
  ran_over error is x numbers ran (inl less) which = inl (piece_below x (below_error error is x less) ∙ ran)
  ran_over error is x numbers ran (inr least) (inl piece) = inl piece
  ran_over error is x numbers ran (inr least) (inr borrowing) = inr (inr (
    lt-ltb 1 (length befores) (borrower_chunks_more x borrowing),
    subst (λ (one : Option ChunkError). IsSomeAnd one (λ failed. failed.chunk ≤ x)) (sym is) least,
    has_borrower_chunks plans chunks x joined.borrowers.items borrowing gives.borrowers,
  ))

  ran_stops : outcome.error ≢ Some no_memory → (x : ℕ) (numbers : List ℕ) → run_times x joined ≡ 1 → Stop x numbers
  ran_stops enough x numbers ran = by_error outcome.error refl
    where
      by_error : (error : Option ChunkError) → outcome.error ≡ error → Stop x numbers
      by_error None is = inl (piece_before is x ∙ ran)
      by_error (Some error) is = ran_over error is x numbers ran (cases_lt x error.chunk) (piece_or_borrower enough x ran)

  all_stop : outcome.error ≢ Some no_memory → (numbers : List ℕ) → RanOrLast joined numbers → Stops numbers
  all_stop enough numbers stops x among = by_case (stops x among)
    where
      by_case : (run_times x joined ≡ 1) ⊎ IsLast x numbers → Stop x numbers
      by_case (inl ran) = ran_stops enough x numbers ran
      by_case (inr last) = inr (inl last)

  -- memory did not lack before: no chunk lies below want of memory
  had_enough : outcome.error ≢ Some no_memory → joined.error ≢ Some no_memory
  had_enough enough lacks = by_error outcome.error refl
    where
      by_cause : (error : ChunkError) → outcome.error ≡ Some error → (error ≡ no_memory) ⊎ ((joined.error ≡ Some error) ⊎ FailsValidated plans chunks joined error first after) → ⊥
      by_cause error is (inl memory) = enough (is ∙ ap Some memory)
      by_cause error is (inr (inl old)) = enough (is ∙ sym old ∙ lacks)
      by_cause error is (inr (inr fails)) = let below : error.chunk < 0 = subst (λ (e : Option ChunkError). IsBelow e error.chunk) lacks fails.below in omega (arith, below)

      by_error : (error : Option ChunkError) → outcome.error ≡ error → ⊥
      by_error None is = let both : None ≡ Some no_memory = sym (none_joined is) ∙ lacks in cc
      by_error (Some error) is = by_cause error is (subst (λ (e : Option ChunkError). IfSome e (λ one. (one ≡ no_memory) ⊎ ((joined.error ≡ Some one) ⊎ FailsValidated plans chunks joined one first after))) is validates.cause)

  stops_of : outcome.error ≢ Some no_memory → AllByRecursion Stops joined.claimed.items
  stops_of enough = each_weaker (RanOrLast joined) Stops (all_stop enough) joined.claimed.items (gives.stops (had_enough enough))

  faults_last : (numbers : List ℕ) (before now : SourceState) → FaultsWhereNotRan joined numbers before now → FaultsAtLast outcome.pieces.items numbers before now
  faults_last numbers before now (inl same) = inl same
  faults_last numbers before now (inr (last, is, none)) = let most = validates.some_pieces last in inr (last, is, omega (arith, most, none))

  none_fails : outcome.error ≡ None → KeepsFaults first after
  none_fails none = by_case validates.faults
    where
      by_case : KeepsFaults first after ⊎ IsSomeAnd outcome.error (λ error. (error ≡ no_memory) ⊎ (error.error ≡ ReadFault)) → KeepsFaults first after
      by_case (inl same) = same
      by_case (inr fault) = absurd (subst (λ (e : Option ChunkError). IsSomeAnd e (λ error. (error ≡ no_memory) ⊎ (error.error ≡ ReadFault))) none fault)

  -- ---- all of it

  pub executed : Executed plans chunks outcome befores (after ∷ others)
  executed = record {
    apart = subst (AreApart (length chunks)) (sym validates.lists) gives.apart;
    whole = λ none. subst (AreWhole (length chunks)) (sym validates.lists) (gives.whole (none_joined none));
    ascend = subst (AllByRecursion Ascend) (sym validates.lists) gives.ascend;
    claimed = λ x.
        let most = validates.some_pieces x in
        let less = gives.claimed x in
        let same = over x in
        omega (arith, most, less, same);
    sorted = validates.sorted;
    complete = λ none. in_order_once (length chunks) (numbers_of outcome.pieces.items) (numbers_in_order outcome.pieces.items validates.sorted) (λ x. piece_before none x ∙ gives.complete (none_joined none) x);
    content = by_all (λ bytes. All (IsPieceOf (leaves_of bytes) plans chunks) outcome.pieces.items) validates.content;
    dtype = validates.dtype gives.dtype;
    rows = validates.rows gives.rows;
    middles = first ∷ others;
    cause = cause_of outcome.error refl;
    stops = λ enough. subst (AllByRecursion Stops) (sym validates.lists) (stops_of enough);
    faults = subst (λ (lists : List (List ℕ)). EachSourceBy (FaultsAtLast outcome.pieces.items) lists befores (first ∷ others)) (sym validates.lists)
        (each_by (FaultsWhereNotRan joined) (FaultsAtLast outcome.pieces.items) faults_last joined.claimed.items befores (first ∷ others) gives.faults);
    quiet = λ none. each_first KeepsFaults KeepsFaults (λ before now last one two. two ∙ one) befores (first ∷ others) (after ∷ others) (gives.quiet (none_joined none)) (none_fails none, refl);
    sources = subst (λ (lists : List (List ℕ)). EachSourceBy (RunsSource (nat_lt 1 (length befores)) plans chunks) lists befores (first ∷ others)) (sym validates.lists) gives.sources;
    again = (record { asks = validates.again; faults = validates.faults; lasts = validates.lasts; in_flight = validates.in_flight }, refl);
    reruns = reruns_from (told_right plans chunks joined first) (told_by_all plans befores) by_all plans chunks outcome.reruns.items validates.reruns;
    reruns_once = λ x.
        let most = validates.reruns_once x in
        let ran = gives.claimed x in
        let same = over x in
        omega (arith, most, ran, same);
    alone = λ one. let none = validates.none (gives.alone one) in (ap (λ (source : SourceState). source ∷ others) none.0, none.1);
  }

-- no worker ran where there was no source
none_ran : (shares : Bool) (plans : ScanPlans) (chunks : List SelectedRows) (lists : List (List ℕ)) (befores : List SourceState) → 0 < length befores → EachSourceBy (RunsSource shares plans chunks) lists befores [] → ⊥
none_ran shares plans chunks lists [] some each = absurd (omega (arith, some))
none_ran shares plans chunks [] (before ∷ befores) some each = each
none_ran shares plans chunks (list ∷ lists) (before ∷ befores) some each = each

-- the first of the sources is lent, and the others stay as they are
pub executed_by : {S : Type 0} (state : S → SourceState) (plans : ScanPlans) (chunks : List SelectedRows) (joined : Joined) (outcome : Outcome) (befores : List SourceState) (sources : List S) (first after : S) → 0 < length befores
    → JoinedAll plans chunks joined befores (map state sources) → Validates plans chunks joined outcome (state (slice_index_or sources 0 first)) (state after) → Executed plans chunks outcome befores (map state (slice_set sources 0 after))
executed_by state plans chunks joined outcome befores [] first after some gives validates = absurd (none_ran (nat_lt 1 (length befores)) plans chunks joined.claimed.items befores some gives.sources)
executed_by state plans chunks joined outcome befores (one ∷ sources) first after some gives validates = executed plans chunks joined outcome befores (state one) (map state sources) (state after) some gives validates

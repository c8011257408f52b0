-- The columns of the pieces that all workers gave are the batches of the chunks.
use Rattle.std.proofs.Common.{◌≡◌, ◌≢◌, ℕ, zero, suc, ◌+◌, ◌<◌, ◌≤◌, ◌⊎◌, inl, inr, Bool, true, List, [], ◌∷◌, Some, None, Result, Ok, Err, Vec, Global, length, map, take, refl, sym, ap, ◌∙◌, subst, arith}
use native.Mathlib.Decide.{ℕ_discrete}
use mathlib.Core.Logic.{dite}
use Rattle.std.specs.Prelude.{Option, IfSome, IsSomeAnd, nat_lt}
use Rattle.std.specs.List.{slice_get, All, AllByRecursion, flat_map}
use Rattle.std.proofs.lemmas.Bool.{cases_lt}
use Rattle.std.proofs.lemmas.List.{length-map}
use Rattle.std.proofs.lemmas.List.Elements.{All-nil, All-head, All-tail}
use Rattle.std.proofs.lemmas.Option.{same_Some}
use Rattle.vx_base.specs.Columns.{ColumnData}
use Rattle.vx_base.specs.Masks.{true_count}
use Rattle.vx_base.specs.Sources.{SourceState}
use Rattle.vx_claims.specs.Apart.{times}
use Rattle.vx_claims.proofs.Numbers.{times_other}
use Rattle.vx_rows.specs.Derivations.{Leaves}
use Rattle.vx_rows.specs.SegmentLeaves.{leaves_of}
use Rattle.vx_splits.specs.declared.selected_rows.SelectedRows.{SelectedRows}
use Rattle.vx_drive.specs.declared.errors.ScanError.{ScanError}
use Rattle.vx_drive.specs.declared.errors.ScanError.TheVariants.{BadProjection, OffsetOverflow, OutOfRange, Unsupported, NoLocation, ReadFault, Stalled, BadSegment, BadCode, EvalFault, Memory}
use Rattle.vx_drive.specs.declared.plans.ScanPlans.{ScanPlans}
use Rattle.vx_drive.specs.Asks.{IsLeftClear, Lasts}
use Rattle.vx_drive.specs.Fetched.{AreDistinct}
use Rattle.vx_drive.specs.Plans.{bytes_of, projection_node}
use Rattle.vx_drive.proofs.Distinct.{distinct_none, pairs_none}
use Rattle.vx_drive.proofs.Lasting.{lasts_then}
use Rattle.vx_drive.proofs.Sessions.{asked_nothing}
use Rattle.vx_chunks.specs.ChunkRows.{IsPiece}
use Rattle.vx_chunks.specs.Lent.{EachSource, FirstSource, SomeSourceBy}
use Rattle.vx_chunks.proofs.LentSources.{each_by, each_clear, each_first, each_lasts, first_by, first_same, first_there}
use Rattle.vx_workers.specs.declared.worker_states.ChunkError.{ChunkError}
use Rattle.vx_workers.specs.declared.worker_states.Piece.{Piece}
use Rattle.vx_workers.specs.Merges.{no_memory}
use Rattle.vx_workers.specs.Borrowers.{AsksForWholes, IsAsking}
use Rattle.vx_workers.specs.Reasons.{chunk_and_segment, AreOfOneLeafOnlyBehind}
use Rattle.vx_workers.specs.Unhindered.{IsUnhindered, IsUnhinderedAt}
use Rattle.vx_workers.specs.Workers.{HasDtype, HasItsRows, IsPieceOf, numbers_of, IsLast, AsksReached, RunsSource, FailsLast}
use Rattle.vx_workers.proofs.Certifying.{each_weaker}
use Rattle.vx_execute.specs.declared.outcomes.Outcome.{Outcome}
use Rattle.vx_execute.specs.Executes.{stretch, AskedAgain, FailsAgain, FailsLowest, FailsOn, FaultsAtLast, MayHaveBorrowed, StopsAtLast, Executed, Executes}
use Rattle.vx_execute.specs.Validating.{rerun_chunks, AsksAgain}
use Rattle.vx_scan.specs.BatchColumns.{Told, TakesBatches}
use Rattle.vx_scan.specs.Batches.{AreBatches, AreUnhinderedButLast, FaultsFrom, HasPiece, HavePiecesButLast, Share, reasons_in, AsksOver, LowestFailure, GivesBatches}
use Rattle.vx_scan.proofs.AskedShares.{AsksShares, each_from, shared}

-- ---- the batches

module _ (plans : ScanPlans) (all : List SelectedRows) where
  -- these chunks are those from that place on
  abbrev StandFrom : ℕ → List SelectedRows → Type 0
  StandFrom first chunks = (i : ℕ) (chunk : SelectedRows) → slice_get chunks i ≡ Some chunk → slice_get all (first + i) ≡ Some chunk

  stand_here : (first : ℕ) (chunk : SelectedRows) (chunks : List SelectedRows) → StandFrom first (chunk ∷ chunks) → slice_get all first ≡ Some chunk
  stand_here first chunk chunks stand = let start : first + 0 ≡ first = omega arith in ap (slice_get all) (sym start) ∙ stand 0 chunk refl

  stand_next : (first : ℕ) (chunk : SelectedRows) (chunks : List SelectedRows) → StandFrom first (chunk ∷ chunks) → StandFrom (suc first) chunks
  stand_next first chunk chunks stand i other got = let next : suc first + i ≡ first + suc i = omega arith in ap (slice_get all) next ∙ stand (suc i) other got

  rows_at : (number : ℕ) (chunk : SelectedRows) (piece : Piece) → piece.chunk ≡ number → slice_get all number ≡ Some chunk → HasItsRows plans all piece → (length piece.column.values ≡ true_count chunk.mask) × IsUnhindered plans chunk
  rows_at number chunk piece same here has =
      subst (λ (one : Option SelectedRows). IsSomeAnd one (λ other. (length piece.column.values ≡ true_count other.mask) × IsUnhindered plans other)) (ap (slice_get all) same ∙ here) has

  rows_from : (first : ℕ) (chunks : List SelectedRows) (pieces : List Piece) → StandFrom first chunks → numbers_of pieces ≡ stretch first (length chunks) → All (HasItsRows plans all) pieces
      → map (λ (batch : ColumnData). length batch.values) (map (λ (piece : Piece). piece.column) pieces) ≡ map (λ (chunk : SelectedRows). true_count chunk.mask) chunks
  rows_from first [] [] stand numbers have = refl
  rows_from first [] (piece ∷ pieces) stand numbers have = absurd cc
  rows_from first (chunk ∷ chunks) [] stand numbers have = absurd cc
  rows_from first (chunk ∷ chunks) (piece ∷ pieces) stand numbers have =
      let same : piece.chunk ≡ first = cc in
      let next : numbers_of pieces ≡ stretch (suc first) (length chunks) = cc in
      let one = (rows_at first chunk piece same (stand_here first chunk chunks stand) (All-head (HasItsRows plans all) piece pieces have)).0 in
      let rest = rows_from (suc first) chunks pieces (stand_next first chunk chunks stand) next (All-tail (HasItsRows plans all) piece pieces have) in
      (λ k. one k ∷ rest k)

  -- none of the chunks that have pieces is hindered
  unhindered_from : (first : ℕ) (chunks : List SelectedRows) (pieces : List Piece) → StandFrom first chunks → numbers_of pieces ≡ stretch first (length chunks) → All (HasItsRows plans all) pieces → AllByRecursion (IsUnhindered plans) chunks
  unhindered_from first [] pieces stand numbers have = tt
  unhindered_from first (chunk ∷ chunks) [] stand numbers have = absurd cc
  unhindered_from first (chunk ∷ chunks) (piece ∷ pieces) stand numbers have =
      let same : piece.chunk ≡ first = cc in
      let next : numbers_of pieces ≡ stretch (suc first) (length chunks) = cc in (
        (rows_at first chunk piece same (stand_here first chunk chunks stand) (All-head (HasItsRows plans all) piece pieces have)).1,
        unhindered_from (suc first) chunks pieces (stand_next first chunk chunks stand) next (All-tail (HasItsRows plans all) piece pieces have),
      )

  its_unhindered : (piece : Piece) (got : Option SelectedRows) → IsSomeAnd got (λ chunk. (length piece.column.values ≡ true_count chunk.mask) × IsUnhindered plans chunk) → IsSomeAnd got (IsUnhindered plans)
  its_unhindered piece None has = absurd has
  its_unhindered piece (Some chunk) has = has.1

  -- nor is one whose number stands among those of the pieces
  piece_unhindered : (number : ℕ) (pieces : List Piece) → 1 ≤ times number (numbers_of pieces) → All (HasItsRows plans all) pieces → IsUnhinderedAt plans all number
  piece_unhindered number [] some have = absurd (omega (arith, some))
  piece_unhindered number (piece ∷ pieces) some have = dite (ℕ_discrete piece.chunk number)
      (λ same. subst (IsUnhinderedAt plans all) same (its_unhindered piece (slice_get all piece.chunk) (All-head (HasItsRows plans all) piece pieces have)))
      (λ differs.
      let other = times_other number piece.chunk (numbers_of pieces) differs in
      piece_unhindered number pieces (omega (arith, other, some)) (All-tail (HasItsRows plans all) piece pieces have))

  asking_unhindered : (got : Option SelectedRows) → IsSomeAnd got (λ chunk. AsksForWholes plans chunk × IsUnhindered plans chunk) → IsSomeAnd got (IsUnhindered plans)
  asking_unhindered None asks = absurd asks
  asking_unhindered (Some chunk) asks = asks.1

  unhindered_but_last : (shares : Bool) (error : Option ChunkError) (pieces : List Piece) → All (HasItsRows plans all) pieces → (lists : List (List ℕ)) → AllByRecursion (StopsAtLast plans all shares error pieces) lists → AllByRecursion (AreUnhinderedButLast plans all) lists
  unhindered_but_last shares error pieces have lists stop =
      each_weaker (StopsAtLast plans all shares error pieces) (AreUnhinderedButLast plans all) (λ numbers stops x among. by_case x numbers (stops x among)) lists stop
    where
      by_case : (x : ℕ) (numbers : List ℕ) → (times x (numbers_of pieces) ≡ 1) ⊎ (IsLast x numbers ⊎ MayHaveBorrowed plans all shares error x) → IsUnhinderedAt plans all x ⊎ IsLast x numbers
      by_case x numbers (inl one) = inl (piece_unhindered x pieces (omega (arith, one)) have)
      by_case x numbers (inr (inl last)) = inr last
      by_case x numbers (inr (inr (shared, least, asks))) = inl (asking_unhindered (slice_get all x) asks)

module _ (leaves : Leaves) (plans : ScanPlans) (all : List SelectedRows) where
  piece_at : (number : ℕ) (chunk : SelectedRows) (piece : Piece) → piece.chunk ≡ number → slice_get all number ≡ Some chunk → IsPieceOf leaves plans all piece → IsPiece leaves plans [] chunk piece.column
  piece_at number chunk piece same here is =
      subst (λ (one : Option SelectedRows). IsSomeAnd one (λ other. IsPiece leaves plans [] other piece.column)) (ap (slice_get all) same ∙ here) is

  batches_from : (first : ℕ) (chunks : List SelectedRows) (pieces : List Piece) → StandFrom plans all first chunks → numbers_of pieces ≡ stretch first (length chunks) → All (IsPieceOf leaves plans all) pieces
      → AreBatches leaves plans chunks (map (λ (piece : Piece). piece.column) pieces)
  batches_from first [] [] stand numbers are = tt
  batches_from first [] (piece ∷ pieces) stand numbers are = absurd cc
  batches_from first (chunk ∷ chunks) [] stand numbers are = absurd cc
  batches_from first (chunk ∷ chunks) (piece ∷ pieces) stand numbers are =
      let same : piece.chunk ≡ first = cc in
      let rest : numbers_of pieces ≡ stretch (suc first) (length chunks) = cc in (
        piece_at first chunk piece same (stand_here plans all first chunk chunks stand) (All-head (IsPieceOf leaves plans all) piece pieces are),
        batches_from (suc first) chunks pieces (stand_next plans all first chunk chunks stand) rest (All-tail (IsPieceOf leaves plans all) piece pieces are),
      )

  its_piece : (piece : Piece) (got : Option SelectedRows) → IsSomeAnd got (λ chunk. IsPiece leaves plans [] chunk piece.column) → IsSomeAnd got (HasPiece leaves plans)
  its_piece piece None is = absurd is
  its_piece piece (Some chunk) is = (piece.column, is)

  -- a chunk whose number stands among those of the pieces
  has_piece : (number : ℕ) (pieces : List Piece) → 1 ≤ times number (numbers_of pieces) → All (IsPieceOf leaves plans all) pieces → IsSomeAnd (slice_get all number) (HasPiece leaves plans)
  has_piece number [] some are = absurd (omega (arith, some))
  has_piece number (piece ∷ pieces) some are = dite (ℕ_discrete piece.chunk number)
      (λ same.
      subst (λ (n : ℕ). IsSomeAnd (slice_get all n) (HasPiece leaves plans)) same (its_piece piece (slice_get all piece.chunk) (All-head (IsPieceOf leaves plans all) piece pieces are)))
      (λ differs.
      let other = times_other number piece.chunk (numbers_of pieces) differs in
      has_piece number pieces (omega (arith, other, some)) (All-tail (IsPieceOf leaves plans all) piece pieces are))

  chunk_piece : (number : ℕ) (chunk : SelectedRows) (pieces : List Piece) → slice_get all number ≡ Some chunk → 1 ≤ times number (numbers_of pieces) → All (IsPieceOf leaves plans all) pieces → HasPiece leaves plans chunk
  chunk_piece number chunk pieces here some are = subst (λ (got : Option SelectedRows). IsSomeAnd got (HasPiece leaves plans)) here (has_piece number pieces some are)

  pieces_but_last : (shares : Bool) (failed : ChunkError) (pieces : List Piece) → All (IsPieceOf leaves plans all) pieces → (lists : List (List ℕ)) → AllByRecursion (StopsAtLast plans all shares (Some failed) pieces) lists → AllByRecursion (HavePiecesButLast leaves plans all shares failed.chunk) lists
  pieces_but_last shares failed pieces are lists stop =
      each_weaker (StopsAtLast plans all shares (Some failed) pieces) (HavePiecesButLast leaves plans all shares failed.chunk) (λ numbers stops x among. by_case x numbers (stops x among)) lists stop
    where
      by_case : (x : ℕ) (numbers : List ℕ) → (times x (numbers_of pieces) ≡ 1) ⊎ (IsLast x numbers ⊎ MayHaveBorrowed plans all shares (Some failed) x) → IsSomeAnd (slice_get all x) (HasPiece leaves plans) ⊎ (IsLast x numbers ⊎ ((shares ≡ true) × (failed.chunk ≤ x) × IsAsking plans all x))
      by_case x numbers (inl one) = inl (has_piece x pieces (omega (arith, one)) are)
      by_case x numbers (inr last) = inr last

-- what holds of each of the first so many
all_taken : (P : SelectedRows → Type 0) (k : ℕ) (xs : List SelectedRows) → ((i : ℕ) (x : SelectedRows) → i < k → slice_get xs i ≡ Some x → P x) → AllByRecursion P (take k xs)
all_taken P zero xs each = tt
all_taken P (suc k) [] each = tt
all_taken P (suc k) (x ∷ xs) each = (each 0 x (omega arith) refl, all_taken P k xs (λ i y less here. each (suc i) y (omega (arith, less)) here))

length_stretch : (first count : ℕ) → length (stretch first count) ≡ count
length_stretch first zero = refl
length_stretch first (suc count) = let rest = length_stretch (suc first) count in omega (arith, rest)

all_dtypes : (plans : ScanPlans) (pieces : List Piece) → All (HasDtype plans) pieces → AllByRecursion (λ (batch : ColumnData). batch.dtype ≡ (projection_node plans).dtype) (map (λ (piece : Piece). piece.column) pieces)
all_dtypes plans [] are = tt
all_dtypes plans (piece ∷ pieces) are = (All-head (HasDtype plans) piece pieces are, all_dtypes plans pieces (All-tail (HasDtype plans) piece pieces are))

pub is_memory : (error : ScanError) → (error ≡ Memory) ⊎ (error ≢ Memory)
is_memory BadProjection = inr (λ same. cc)
is_memory OffsetOverflow = inr (λ same. cc)
is_memory OutOfRange = inr (λ same. cc)
is_memory (Unsupported list) = inr (λ same. cc)
is_memory (NoLocation segment) = inr (λ same. cc)
is_memory ReadFault = inr (λ same. cc)
is_memory Stalled = inr (λ same. cc)
is_memory (BadSegment segment) = inr (λ same. cc)
is_memory (BadCode code row) = inr (λ same. cc)
is_memory (EvalFault row) = inr (λ same. cc)
is_memory Memory = inl refl

-- ---- what came of all chunks

module _ (plans : ScanPlans) (chunks : List SelectedRows) where
  -- ---- why there are none

  -- on which chunk it failed
  fails_there : (error : ChunkError) (lists : List (List ℕ)) (befores afters : List SourceState) → SomeSourceBy (FailsLast plans chunks error) lists befores afters → (chunk : SelectedRows) × (slice_get chunks error.chunk ≡ Some chunk)
  fails_there error [] befores afters fails = absurd fails
  fails_there error (list ∷ lists) [] afters fails = absurd fails
  fails_there error (list ∷ lists) (before ∷ befores) [] fails = absurd fails
  fails_there error (list ∷ lists) (before ∷ befores) (after ∷ afters) (inl fails) = (fails.fails.chunk, fails.fails.here)
  fails_there error (list ∷ lists) (before ∷ befores) (after ∷ afters) (inr fails) = fails_there error lists befores afters fails

  module _ (outcome : Outcome) (befores afters : List SourceState) (executed : Executed plans chunks outcome befores afters) where
    abbrev Fails : ChunkError → Type 0
    Fails error = FailsOn plans chunks error outcome.claimed.items befores executed.middles afters

    chunk_there : (error : ChunkError) → Fails error → (chunk : SelectedRows) × (slice_get chunks error.chunk ≡ Some chunk)
    chunk_there error (inl fails) = fails_there error outcome.claimed.items befores executed.middles fails
    chunk_there error (inr fails) =
        let first = first_there (RunsSource (nat_lt 1 (length befores)) plans chunks) (FailsAgain plans chunks error befores) error.chunk outcome.claimed.items befores executed.middles afters fails.1 executed.sources fails.2 in
        (first.2.chunk, first.2.here)

    -- what has no piece isn't below the chunk that failed
    faults_from : (place : ℕ) (list : List ℕ) (before after : SourceState) → ((x : ℕ) → x < place → times x (numbers_of outcome.pieces.items) ≡ 1) → FaultsAtLast outcome.pieces.items list before after → FaultsFrom place list before after
    faults_from place list before after lower (inl same) = inl same
    faults_from place list before after lower (inr (last, is, none)) = by_order (cases_lt last place)
      where
        by_order : (last < place) ⊎ (place ≤ last) → FaultsFrom place list before after
        by_order (inl less) = let one = lower last less in absurd (omega (arith, one, none))
        by_order (inr least) = inr (last, is, least)

    -- no reruns are no chunks that ran again
    none_again : length befores ≡ 1 → (afters ≡ executed.middles) × (rerun_chunks outcome.reruns.items ≡ [])
    none_again one = let none = executed.alone one in (none.0, ap rerun_chunks none.1)

    -- that chunk failed, and that is why
    is_failure : (error : ScanError) (told : Told outcome error) → told.failed ≡ record { chunk = told.failed.chunk; error = error }
    is_failure error told = λ i. record { chunk = told.failed.chunk; error = told.why i }

    lowest_of : (error : ScanError) → outcome.error ≢ Some no_memory → (told : Told outcome error) → (told.failed ≡ no_memory) ⊎ FailsLowest plans chunks told.failed outcome.pieces.items outcome.claimed.items befores executed.middles afters
        → (error ≡ Memory) ⊎ LowestFailure plans chunks error befores afters
    lowest_of error enough told (inl memory) = inl (sym told.why ∙ ap (λ (failed : ChunkError). failed.error) memory)
    lowest_of error enough told (inr fails) =
        let there = chunk_there told.failed fails.fails in
        inr record {
          place = told.failed.chunk;
          chunk = there.0;
          here = there.1;
          claims = outcome.claimed.items;
          middles = executed.middles;
          reruns = rerun_chunks outcome.reruns.items;
          claimed = record {
            apart = executed.apart;
            ascend = executed.ascend;
            all_before = λ x less. let one = fails.lower x less in let most = executed.claimed x in let once = executed.apart.once x in omega (arith, one, most, once);
          };
          asked = record {
            ran = executed.sources;
            again = subst (λ (one : Option ChunkError). FirstSource (AskedAgain plans chunks (rerun_chunks outcome.reruns.items) one) executed.middles afters) (told.is ∙ ap Some (is_failure error told)) executed.again;
            alone = none_again;
            faults = each_by (FaultsAtLast outcome.pieces.items) (FaultsFrom told.failed.chunk) (λ list before after at_last. faults_from told.failed.chunk list before after fails.lower at_last) outcome.claimed.items befores executed.middles executed.faults;
          };
          others = record {
            lower = λ file tell.
                all_taken (HasPiece (leaves_of (bytes_of plans file)) plans) told.failed.chunk chunks (λ i chunk less here.
                let one = fails.lower i less in
                chunk_piece (leaves_of (bytes_of plans file)) plans chunks i chunk outcome.pieces.items here (omega (arith, one)) (executed.content file tell));
            stops = λ file tell.
                pieces_but_last (leaves_of (bytes_of plans file)) plans chunks (nat_lt 1 (length befores)) told.failed outcome.pieces.items (executed.content file tell) outcome.claimed.items
                (subst (λ (one : Option ChunkError). AllByRecursion (StopsAtLast plans chunks (nat_lt 1 (length befores)) one outcome.pieces.items) outcome.claimed.items) told.is (executed.stops enough));
            unhindered = all_taken (IsUnhindered plans) told.failed.chunk chunks (λ i chunk less here.
                let one = fails.lower i less in
                subst (λ (got : Option SelectedRows). IsSomeAnd got (IsUnhindered plans)) here (piece_unhindered plans chunks i outcome.pieces.items (omega (arith, one)) executed.rows));
            ran_unhindered = unhindered_but_last plans chunks (nat_lt 1 (length befores)) outcome.error outcome.pieces.items executed.rows outcome.claimed.items (executed.stops enough);
          };
          cause = subst Fails (is_failure error told) fails.fails;
        }

    cause_of : (error : ScanError) → TakesBatches outcome (Err error) → (error ≡ Memory) ⊎ LowestFailure plans chunks error befores afters
    cause_of error (inl memory) = inl memory
    cause_of error (inr told) = by_memory (is_memory error)
      where
        -- want of memory outside of a run is want of memory
        enough : error ≢ Memory → outcome.error ≢ Some no_memory
        enough other lacks = let same : told.failed ≡ no_memory = same_Some told.failed no_memory (sym told.is ∙ lacks) in other (sym told.why ∙ ap (λ (failed : ChunkError). failed.error) same)

        by_memory : (error ≡ Memory) ⊎ (error ≢ Memory) → (error ≡ Memory) ⊎ LowestFailure plans chunks error befores afters
        by_memory (inl memory) = inl memory
        by_memory (inr other) =
            lowest_of error (enough other) told (subst (λ (one : Option ChunkError). IfSome one (λ failed. (failed ≡ no_memory) ⊎ FailsLowest plans chunks failed outcome.pieces.items outcome.claimed.items befores executed.middles afters)) told.is executed.cause)

    asks_of : AsksOver plans chunks befores afters
    asks_of =
        let all = shared (nat_lt 1 (length befores)) plans chunks outcome.claimed.items befores executed.middles executed.apart.once executed.sources in
        record {
          shares = all.shares;
          middles = executed.middles;
          each = all.each;
          once_a_chunk = all.distinct;
          reruns = rerun_chunks outcome.reruns.items;
          reruns_once = λ x. let most = executed.reruns_once x in let once = executed.apart.once x in omega (arith, most, once);
          again = first_by (AskedAgain plans chunks (rerun_chunks outcome.reruns.items) outcome.error) (AsksAgain plans chunks (rerun_chunks outcome.reruns.items)) (λ before after asked. asked.asks) executed.middles afters executed.again;
          alone = none_again;
        }

    -- ---- all sources together

    -- what was left clear, and then again
    clear_then : (before now after : SourceState) → IsLeftClear before now → IsLeftClear now after → IsLeftClear before after
    clear_then before now after one (inl none) = inl none
    clear_then before now after one (inr same) = subst (IsLeftClear before) (sym same) one

    all_last : EachSource Lasts befores afters
    all_last = each_first Lasts (AskedAgain plans chunks (rerun_chunks outcome.reruns.items) outcome.error) (λ before now after one two. lasts_then before now after one two.lasts) befores executed.middles afters
        (each_from (nat_lt 1 (length befores)) plans chunks Lasts (λ list before after runs. runs.lasts) outcome.claimed.items befores executed.middles executed.sources) executed.again

    all_clear : EachSource IsLeftClear befores afters
    all_clear = each_first IsLeftClear (AskedAgain plans chunks (rerun_chunks outcome.reruns.items) outcome.error) (λ before now after one two. clear_then before now after one two.in_flight) befores executed.middles afters
        (each_from (nat_lt 1 (length befores)) plans chunks IsLeftClear (λ list before after runs. runs.in_flight) outcome.claimed.items befores executed.middles executed.sources) executed.again

    from_executed : (result : Result (Vec ColumnData Global) ScanError) → TakesBatches outcome result → GivesBatches plans chunks result befores afters
    from_executed (Ok batches) takes =
        let numbers = executed.complete takes.0 in
        record {
          content = λ file tell. subst (AreBatches (leaves_of (bytes_of plans file)) plans chunks) (sym takes.1)
              (batches_from (leaves_of (bytes_of plans file)) plans chunks 0 chunks outcome.pieces.items (λ i chunk here. let at : 0 + i ≡ i = omega arith in ap (slice_get chunks) at ∙ here) numbers (executed.content file tell));
          count = ap length takes.1 ∙ length-map outcome.pieces.items (λ (piece : Piece). piece.column) ∙ sym (length-map outcome.pieces.items (λ (piece : Piece). piece.chunk)) ∙ ap length numbers ∙ length_stretch 0 (length chunks);
          dtype = subst (AllByRecursion (λ (batch : ColumnData). batch.dtype ≡ (projection_node plans).dtype)) (sym takes.1) (all_dtypes plans outcome.pieces.items executed.dtype);
          rows = ap (map (λ (batch : ColumnData). length batch.values)) takes.1
              ∙ rows_from plans chunks 0 chunks outcome.pieces.items (λ i chunk here. let at : 0 + i ≡ i = omega arith in ap (slice_get chunks) at ∙ here) numbers executed.rows;
          unhindered = unhindered_from plans chunks 0 chunks outcome.pieces.items (λ i chunk here. let at : 0 + i ≡ i = omega arith in ap (slice_get chunks) at ∙ here) numbers executed.rows;
          faults = executed.quiet takes.0;
          asks = asks_of;
          cause = tt;
          lasts = all_last;
          in_flight = all_clear;
        }
    from_executed (Err error) takes = record {
      content = tt;
      count = tt;
      dtype = tt;
      rows = tt;
      unhindered = tt;
      faults = tt;
      asks = asks_of;
      cause = cause_of error takes;
      lasts = all_last;
      in_flight = all_clear;
    }

  -- ---- where no worker started

  abbrev idle_share : Share
  idle_share = record { numbers = []; reasons = [] }

  abbrev idle_shares : List SourceState → List Share
  idle_shares [] = []
  idle_shares (source ∷ sources) = idle_share ∷ idle_shares sources

  idle_asks : (shares : Bool) (source : SourceState) → AsksReached shares plans chunks [] [] source source
  idle_asks shares source = record {
    are = tt;
    own = tt;
    located = All-nil (λ segment. segment < length plans.locations.items);
    asked = sym (asked_nothing source.asked);
    once_a_chunk = distinct_none;
    faulted = [];
    faulted_are = tt;
    once_a_leaf = λ order together. pairs_none (AreOfOneLeafOnlyBehind []);
    once_a_take = distinct_none;
  }

  none_asked : (source : SourceState) → AsksAgain plans chunks [] source source
  none_asked source = record {
    reasons = [];
    are = tt;
    direct = tt;
    located = All-nil (λ segment. segment < length plans.locations.items);
    asked = sym (asked_nothing source.asked);
    once_a_chunk = distinct_none;
    once_a_take = distinct_none;
  }

  all_idle : (shares : Bool) (sources : List SourceState) → AsksShares shares plans chunks (idle_shares sources) sources sources
  all_idle shares [] = tt
  all_idle shares (source ∷ sources) = (idle_asks shares source, all_idle shares sources)

  idle_distinct : (sources : List SourceState) → AreDistinct (map chunk_and_segment (flat_map reasons_in (idle_shares sources)))
  idle_distinct [] = distinct_none
  idle_distinct (source ∷ sources) = idle_distinct sources

  idle_cause : (outcome : Outcome) (error : ScanError) → outcome.error ≡ Some no_memory → TakesBatches outcome (Err error) → error ≡ Memory
  idle_cause outcome error none (inl memory) = memory
  idle_cause outcome error none (inr told) =
      let same : told.failed ≡ no_memory = same_Some told.failed no_memory (sym told.is ∙ none) in
      sym told.why ∙ ap (λ (failed : ChunkError). failed.error) same

  from_nothing : (outcome : Outcome) (sources : List SourceState) (result : Result (Vec ColumnData Global) ScanError) → outcome.error ≡ Some no_memory → TakesBatches outcome result → GivesBatches plans chunks result sources sources
  from_nothing outcome sources (Ok batches) none takes = let is : Some no_memory ≡ None = sym none ∙ takes.0 in absurd cc
  from_nothing outcome sources (Err error) none takes = record {
    content = tt;
    count = tt;
    dtype = tt;
    rows = tt;
    unhindered = tt;
    faults = tt;
    asks = record {
      shares = idle_shares sources;
      middles = sources;
      each = all_idle (nat_lt 1 (length sources)) sources;
      once_a_chunk = idle_distinct sources;
      reruns = [];
      reruns_once = λ x. omega arith;
      again = first_same (AsksAgain plans chunks []) none_asked sources;
      alone = λ one. (refl, refl);
    };
    cause = inl (idle_cause outcome error none takes);
    lasts = each_lasts sources;
    in_flight = each_clear sources;
  }

pub gives_batches : (plans : ScanPlans) (chunks : List SelectedRows) (outcome : Outcome) (result : Result (Vec ColumnData Global) ScanError) (befores afters : List SourceState) → Executes plans chunks outcome befores afters → TakesBatches outcome result → GivesBatches plans chunks result befores afters
gives_batches plans chunks outcome result befores afters (inl executed) takes = from_executed plans chunks outcome befores afters executed result takes
gives_batches plans chunks outcome result befores afters (inr idle) takes =
    subst (GivesBatches plans chunks result befores) (sym idle.sources) (from_nothing plans chunks outcome befores result idle.error takes)

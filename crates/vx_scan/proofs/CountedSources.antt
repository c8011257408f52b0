-- The source of a worker is asked for a range at most as often as pairs of its chunks reach it, and pairs of takes.
use Rattle.std.proofs.Common.{◌≡◌, ℕ, ◌+◌, ◌<◌, ◌≤◌, Bool, true, false, cond, List, [], ◌∷◌, ◌++◌, Some, length, map, refl, sym, ap, ◌∙◌, subst, arith}
use Rattle.std.specs.Prelude.{option_map}
use Rattle.std.specs.List.{slice_get, flat_map, AllByRecursion}
use Rattle.std.proofs.lemmas.List.Elements.{All-head, All-tail}
use Rattle.vx_base.specs.declared.locations.AskedRange.{AskedRange}
use Rattle.vx_base.specs.Sources.{SourceState, range_of}
use Rattle.vx_rows.specs.Reads.{Way, directly, through, IsAmong}
use Rattle.vx_rows.specs.Renumbered.{way_renumbered}
use Rattle.vx_splits.specs.declared.selected_rows.SelectedRows.{SelectedRows}
use Rattle.vx_drive.specs.declared.plans.ScanPlans.{ScanPlans}
use Rattle.vx_drive.specs.Fetched.{AllLocated, AreDistinct, location_of}
use Rattle.vx_drive.proofs.Sessions.{located_at}
use Rattle.vx_workers.specs.Reasons.{Reason, segment_of, chunk_and_segment, taken_by, take_and_segment, IsReasonAmong}
use Rattle.vx_workers.specs.Workers.{RunsSource}
use Rattle.vx_workers.proofs.Certifying.{each_weaker}
use Rattle.vx_execute.specs.Validating.{direct_and_segment, AsksAgain, IsDirectAmong}
use Rattle.vx_scan.specs.Counts.{is_range, times_asked, asked_times, AreAllOf}
use Rattle.vx_scan.specs.SourceCounts.{ChunkReads, IsDirectRead, IsReadOf, IsSharedRead}
use Rattle.vx_scan.proofs.Counting.{ArePairs, AreBacked, counted_most, direct_once, gained_times, is_same, no_pairs, one_more, one_passed, pairs_most, taken_as}
use Rattle.vx_scan.proofs.ScanAsks.{ranges_for}

-- takes keep their numbers
same_way : (way : Way) → way_renumbered (λ n. n) way ≡ way
same_way directly = refl
same_way (through take) = refl

same_takes : (reasons : List Reason) → flat_map (taken_as (λ n. n)) reasons ≡ flat_map take_and_segment reasons
same_takes [] = refl
same_takes (reason ∷ reasons) = (λ i. taken_by (same_way reason.way i) reason.segment ++ same_takes reasons i)

module _ (plans : ScanPlans) (chunks : List SelectedRows) (range : AskedRange) (numbers : List ℕ) where
  -- the chunk reads the range in that segment that way, directly only if it is one of these
  abbrev Reads : ℕ → ℕ → Way → Type 0
  Reads chunk segment way = (way ≡ directly → IsAmong chunk numbers) × ChunkReads plans chunks range chunk segment way

  abbrev IsBehind : Reason → AskedRange → Type 0
  IsBehind reason other = IsDirectAmong numbers reason × IsReasonAmong plans chunks reason × (option_map range_of (slice_get plans.locations.items reason.segment) ≡ Some other)

  backed : (reasons : List Reason) → AllByRecursion (IsDirectAmong numbers) reasons → AllByRecursion (IsReasonAmong plans chunks) reasons → AllLocated plans.locations.items (map segment_of reasons) → AreBacked IsBehind reasons (ranges_for plans reasons)
  backed [] direct are located = tt
  backed (reason ∷ reasons) direct are located = (
    (direct.0, are.0, ap (option_map range_of) (located_at plans.locations.items reason.segment (All-head (λ segment. segment < length plans.locations.items) reason.segment (map segment_of reasons) located))),
    backed reasons direct.1 are.1 (All-tail (λ segment. segment < length plans.locations.items) reason.segment (map segment_of reasons) located),
  )

  reads_of : (reason : Reason) → IsBehind reason range → Reads reason.chunk reason.segment (way_renumbered (λ n. n) reason.way)
  reads_of reason is = subst (Reads reason.chunk reason.segment) (sym (same_way reason.way)) (
    is.0,
    record { chunk = is.1.chunk; here = is.1.here; leaf = reason.leaf; reads = is.1.reads; location = is.2 },
  )

  reads_counted : (reasons : List Reason) (before after : SourceState) → AllByRecursion (IsDirectAmong numbers) reasons → AllByRecursion (IsReasonAmong plans chunks) reasons → AllLocated plans.locations.items (map segment_of reasons)
      → after.asked ≡ option_map (λ asked. asked ++ ranges_for plans reasons) before.asked → AreDistinct (flat_map direct_and_segment reasons) → AreDistinct (flat_map take_and_segment reasons)
      → (direct shared : List (ℕ × ℕ)) → AreAllOf (IsDirectRead plans chunks range numbers) direct → AreAllOf (IsSharedRead plans chunks range) shared → asked_times range after ≤ asked_times range before + (length direct + length shared)
  reads_counted reasons before after direct_among are located gained once_a_chunk once_a_take direct shared all_direct all_shared =
      let most = counted_most Reads (λ n. n) range IsBehind reads_of reasons (ranges_for plans reasons) (backed reasons direct_among are located) once_a_chunk (subst AreDistinct (sym (same_takes reasons)) once_a_take) direct shared
      (λ pair is. all_direct pair (is.0 refl, is.1)) (λ pair is. all_shared pair (is.0, is.1.1)) in
      let gains = gained_times range (ranges_for plans reasons) before after gained in
      omega (arith, most, gains)

pub source_counted : (shares : Bool) (plans : ScanPlans) (chunks : List SelectedRows) (numbers : List ℕ) (before after : SourceState) → RunsSource shares plans chunks numbers before after
    → (range : AskedRange) (direct shared : List (ℕ × ℕ)) → AreAllOf (IsDirectRead plans chunks range numbers) direct → AreAllOf (IsSharedRead plans chunks range) shared → asked_times range after ≤ asked_times range before + (length direct + length shared)
source_counted shares plans chunks numbers before after runs range direct shared all_direct all_shared =
    reads_counted plans chunks range numbers runs.reasons before after (each_weaker (λ (reason : Reason). IsAmong reason.chunk numbers) (IsDirectAmong numbers) (λ reason among way. among) runs.reasons runs.asks.own) runs.asks.are runs.asks.located runs.asks.asked
    (direct_once runs.reasons runs.asks.once_a_chunk) runs.asks.once_a_take direct shared all_direct all_shared

pub first_counted_again : (plans : ScanPlans) (chunks : List SelectedRows) (reruns : List ℕ) (before after : SourceState) → AsksAgain plans chunks reruns before after → (range : AskedRange) (direct shared : List (ℕ × ℕ)) → AreAllOf (IsDirectRead plans chunks range reruns) direct
    → AreAllOf (IsSharedRead plans chunks range) shared → asked_times range after ≤ asked_times range before + (length direct + length shared)
first_counted_again plans chunks reruns before after asks range direct shared all_direct all_shared =
    reads_counted plans chunks range reruns asks.reasons before after asks.direct asks.are asks.located asks.asked asks.once_a_chunk asks.once_a_take direct shared all_direct all_shared

-- ---- by chunks alone

module _ (plans : ScanPlans) (chunks : List SelectedRows) (range : AskedRange) (numbers : List ℕ) where
  -- As many as the range is asked for: pairs of a chunk and a segment, which are some of all these.
  record CountedByChunks (count : ℕ) (all : List (ℕ × ℕ)) : Type 1 where
    pairs : List (ℕ × ℕ)
    sum : count ≡ length pairs
    are : ArePairs (IsReadOf plans chunks range numbers) all pairs

  chunk_by_bit : (reason : Reason) (other : AskedRange) (count : ℕ) (all : List (ℕ × ℕ)) (b : Bool) → is_range range other ≡ b → IsAmong reason.chunk numbers → IsReasonAmong plans chunks reason
      → option_map range_of (slice_get plans.locations.items reason.segment) ≡ Some other → CountedByChunks count all → CountedByChunks (cond b 1 0 + count) (chunk_and_segment reason ∷ all)
  chunk_by_bit reason other count all true same among is located counted =
      let reads : IsReadOf plans chunks range numbers (chunk_and_segment reason) = (
        among,
        (reason.way, record { chunk = is.chunk; here = is.here; leaf = reason.leaf; reads = is.reads; location = located ∙ ap Some (sym (is_same range other same)) }),
      ) in
      let sum = counted.sum in
      record {
        pairs = chunk_and_segment reason ∷ counted.pairs;
        sum = omega (arith, sum);
        are = one_more (IsReadOf plans chunks range numbers) all counted.pairs (chunk_and_segment reason) reads counted.are;
      }
  chunk_by_bit reason other count all false same among is located counted =
      let sum = counted.sum in
      record {
        pairs = counted.pairs;
        sum = omega (arith, sum);
        are = one_passed (IsReadOf plans chunks range numbers) all counted.pairs (chunk_and_segment reason) counted.are;
      }

  counted_by_chunks : (reasons : List Reason) → AllByRecursion (λ (reason : Reason). IsAmong reason.chunk numbers) reasons → AllByRecursion (IsReasonAmong plans chunks) reasons → AllLocated plans.locations.items (map segment_of reasons)
      → CountedByChunks (times_asked range (ranges_for plans reasons)) (map chunk_and_segment reasons)
  counted_by_chunks [] own are located = record { pairs = []; sum = refl; are = no_pairs (IsReadOf plans chunks range numbers) }
  counted_by_chunks (reason ∷ reasons) own are located =
      let other : AskedRange = range_of (location_of plans.locations.items reason.segment) in
      chunk_by_bit reason other (times_asked range (ranges_for plans reasons)) (map chunk_and_segment reasons) (is_range range other) refl own.0 are.0
      (ap (option_map range_of) (located_at plans.locations.items reason.segment (All-head (λ segment. segment < length plans.locations.items) reason.segment (map segment_of reasons) located)))
      (counted_by_chunks reasons own.1 are.1 (All-tail (λ segment. segment < length plans.locations.items) reason.segment (map segment_of reasons) located))

pub source_counted_by_chunks : (shares : Bool) (plans : ScanPlans) (chunks : List SelectedRows) (numbers : List ℕ) (before after : SourceState) → RunsSource shares plans chunks numbers before after
    → (range : AskedRange) (pairs : List (ℕ × ℕ)) → AreAllOf (IsReadOf plans chunks range numbers) pairs → asked_times range after ≤ asked_times range before + length pairs
source_counted_by_chunks shares plans chunks numbers before after runs range pairs all_pairs =
    let these = counted_by_chunks plans chunks range numbers runs.reasons runs.asks.own runs.asks.are runs.asks.located in
    let most = pairs_most (IsReadOf plans chunks range numbers) (map chunk_and_segment runs.reasons) these.pairs pairs these.are runs.asks.once_a_chunk all_pairs in
    let sum = these.sum in
    let gains = gained_times range (ranges_for plans runs.reasons) before after runs.asks.asked in
    omega (arith, most, sum, gains)

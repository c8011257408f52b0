-- A scan asks all sources together for a range at most as often as pairs reach it, with what the first one is asked again.
use Rattle.std.proofs.Common.{◌≡◌, ℕ, ◌+◌, ◌*◌, ◌≤◌, Bool, List, [], ◌∷◌, ◌++◌, length, refl, sym, ap, subst, arith}
use Rattle.std.specs.Prelude.{nat_lt}
use Rattle.std.specs.List.{flat_map, AllByRecursion}
use Rattle.std.proofs.lemmas.List.{length-append}
use Rattle.std.proofs.lemmas.List.Concat.{flat_map-append}
use Rattle.vx_base.specs.declared.locations.AskedRange.{AskedRange}
use Rattle.vx_base.specs.Sources.{SourceState}
use Rattle.vx_rows.specs.Reads.{Way, directly, through, IsAmong}
use Rattle.vx_rows.specs.Renumbered.{way_renumbered}
use Rattle.vx_chunks.specs.Lent.{EachSourceBy, FirstSource}
use Rattle.vx_workers.specs.Reasons.{Reason}
use Rattle.vx_execute.specs.Validating.{direct_and_segment, IsDirectAmong}
use Rattle.vx_scan.specs.Answer.{FileScan}
use Rattle.vx_scan.specs.Counts.{times_asked, asked_times, all_asked_times, PieceReaches, IsDirectPair, IsDirectPairOf, IsSharedPair, AreAllOf}
use Rattle.vx_scan.specs.FilePlans.{node_of}
use Rattle.vx_scan.specs.Scanned.{AreReasonsFor, Gains, GainsAgain, GainsOver, IsReasonFor, dictionary_and_segment}
use Rattle.vx_scan.proofs.Counting.{ArePairs, Counted, AreBacked, counted, counted_most, direct_once, gained_times, no_pairs, pairs_most, pairs_then, reason_reaches, scan_backed}

-- ---- what the first source is asked again

-- directly only for these chunks
abbrev ReachesOf : FileScan → AskedRange → List ℕ → ℕ → ℕ → Way → Type 0
ReachesOf scan range numbers chunk segment way = (way ≡ directly → IsAmong chunk numbers) × PieceReaches scan range chunk segment way

abbrev IsReasonOf : FileScan → List ℕ → Reason → AskedRange → Type 0
IsReasonOf scan numbers reason range = IsDirectAmong numbers reason × IsReasonFor scan reason range

backed_of : (scan : FileScan) (numbers : List ℕ) (reasons : List Reason) (ranges : List AskedRange) → AllByRecursion (IsDirectAmong numbers) reasons → AreReasonsFor scan reasons ranges → AreBacked (IsReasonOf scan numbers) reasons ranges
backed_of scan numbers [] [] direct are = tt
backed_of scan numbers [] (range ∷ ranges) direct are = absurd are
backed_of scan numbers (reason ∷ reasons) [] direct are = absurd are
backed_of scan numbers (reason ∷ reasons) (range ∷ ranges) direct are = ((direct.0, are.0), backed_of scan numbers reasons ranges direct.1 are.1)

was_direct : (number : ℕ → ℕ) (way : Way) → way_renumbered number way ≡ directly → way ≡ directly
was_direct number directly is = refl
was_direct number (through take) is = absurd cc

reaches_of : (scan : FileScan) (range : AskedRange) (numbers : List ℕ) (reason : Reason) → IsReasonOf scan numbers reason range → ReachesOf scan range numbers reason.chunk reason.segment (way_renumbered (node_of scan.projection) reason.way)
reaches_of scan range numbers reason is = ((λ way. is.0 (was_direct (node_of scan.projection) reason.way way)), reason_reaches scan range reason is.1)

pub again_counted : (scan : FileScan) (reruns : List ℕ) (before after : SourceState) → GainsAgain scan reruns before after → (range : AskedRange) (direct shared : List (ℕ × ℕ)) → AreAllOf (IsDirectPairOf scan range reruns) direct → AreAllOf (IsSharedPair scan range) shared
    → asked_times range after ≤ asked_times range before + (length direct + length shared)
again_counted scan reruns before after gains range direct shared all_direct all_shared =
    let most = counted_most (ReachesOf scan range reruns) (node_of scan.projection) range (IsReasonOf scan reruns) (reaches_of scan range reruns) gains.reasons gains.ranges (backed_of scan reruns gains.reasons gains.ranges gains.direct gains.are_reasons)
    gains.once_a_chunk gains.once_a_dictionary direct shared (λ pair is. all_direct pair (is.0 refl, is.1)) (λ pair is. all_shared pair (is.0, is.1.1)) in
    let gained = gained_times range gains.ranges before after gains.gained in
    omega (arith, most, gained)

-- ---- all sources

module _ (scan : FileScan) (range : AskedRange) (shared : List (ℕ × ℕ)) (all_shared : AreAllOf (IsSharedPair scan range) shared) where
  -- What the sources gained together: so many pairs of a chunk that reach the range directly, and for each source at most
  -- all pairs of a dictionary.
  record CountedOver (count : ℕ) (reasons : List Reason) (befores afters : List SourceState) : Type 1 where
    direct : List (ℕ × ℕ)
    are : ArePairs (IsDirectPair scan range) (flat_map direct_and_segment reasons) direct
    most : all_asked_times range afters ≤ all_asked_times range befores + (length direct + count * length shared)

  counted_over : (shares : Bool) (reasons : List (List Reason)) (befores afters : List SourceState) → EachSourceBy (Gains shares scan) reasons befores afters → CountedOver (length befores) (flat_map (λ own. own) reasons) befores afters
  counted_over shares [] [] [] each = record { direct = []; are = no_pairs (IsDirectPair scan range); most = omega arith }
  counted_over shares [] [] (after ∷ afters) each = absurd each
  counted_over shares [] (before ∷ befores) afters each = absurd each
  counted_over shares (own ∷ reasons) [] afters each = absurd each
  counted_over shares (own ∷ reasons) (before ∷ befores) [] each = absurd each
  counted_over shares (own ∷ reasons) (before ∷ befores) (after ∷ afters) each =
      let rest : CountedOver (length befores) (flat_map (λ one. one) reasons) befores afters = counted_over shares reasons befores afters each.1 in
      let these : Counted (PieceReaches scan range) (times_asked range each.0.ranges) (flat_map direct_and_segment own) (flat_map (dictionary_and_segment scan.projection) own) =
      counted (PieceReaches scan range) (node_of scan.projection) range (IsReasonFor scan) (reason_reaches scan range) own each.0.ranges (scan_backed scan own each.0.ranges each.0.are_reasons) in
      let few = pairs_most (IsSharedPair scan range) (flat_map (dictionary_and_segment scan.projection) own) these.shared shared these.are_shared each.0.once_a_dictionary all_shared in
      let gained = gained_times range each.0.ranges before after each.0.gained in
      let sum = these.sum in
      let most = rest.most in
      record {
        direct = these.direct ++ rest.direct;
        are = subst (λ (pairs : List (ℕ × ℕ)). ArePairs (IsDirectPair scan range) pairs (these.direct ++ rest.direct)) (sym (flat_map-append direct_and_segment own (flat_map (λ one. one) reasons)))
            (pairs_then (IsDirectPair scan range) (flat_map direct_and_segment own) these.direct (flat_map direct_and_segment (flat_map (λ one. one) reasons)) rest.direct these.are_direct rest.are);
        most = simp length-append (omega (arith, few, gained, sum, most));
      }

  -- once all workers were done
  middle_counted : (befores afters : List SourceState) → (gains : GainsOver scan befores afters) → (direct : List (ℕ × ℕ)) → AreAllOf (IsDirectPair scan range) direct → all_asked_times range gains.middles ≤ all_asked_times range befores + (length direct + length befores * length shared)
  middle_counted befores afters gains direct all_direct =
      let over = counted_over (nat_lt 1 (length befores)) gains.reasons befores gains.middles gains.each in
      let few = pairs_most (IsDirectPair scan range) (flat_map direct_and_segment (flat_map (λ own. own) gains.reasons)) over.direct direct over.are (direct_once (flat_map (λ own. own) gains.reasons) gains.once_a_chunk) all_direct in
      let most = over.most in
      omega (arith, few, most)

  first_counted : (reruns : List ℕ) (direct : List (ℕ × ℕ)) → AreAllOf (IsDirectPair scan range) direct → (middles afters : List SourceState) → FirstSource (GainsAgain scan reruns) middles afters → all_asked_times range afters ≤ all_asked_times range middles + (length direct + length shared)
  first_counted reruns direct all_direct [] [] first = omega arith
  first_counted reruns direct all_direct [] (after ∷ afters) first = absurd first
  first_counted reruns direct all_direct (now ∷ middles) [] first = absurd first
  first_counted reruns direct all_direct (now ∷ middles) (after ∷ afters) first =
      let most = again_counted scan reruns now after first.0 range direct shared (λ pair is. all_direct pair is.1) all_shared in
      let same : all_asked_times range afters ≡ all_asked_times range middles = ap (all_asked_times range) first.1 in
      omega (arith, most, same)

pub one_counted : (scan : FileScan) (befores afters : List SourceState) → GainsOver scan befores afters → length befores ≡ 1 → (range : AskedRange) (direct shared : List (ℕ × ℕ)) → AreAllOf (IsDirectPair scan range) direct → AreAllOf (IsSharedPair scan range) shared
    → all_asked_times range afters ≤ all_asked_times range befores + (length direct + length shared)
one_counted scan befores afters gains one range direct shared all_direct all_shared =
    let most = middle_counted scan range shared all_shared befores afters gains direct all_direct in
    let same : all_asked_times range afters ≡ all_asked_times range gains.middles = ap (all_asked_times range) (gains.alone one).0 in
    let times : length befores * length shared ≡ 1 * length shared = ap (λ (n : ℕ). n * length shared) one in
    omega (arith, most, same, times)

pub all_counted : (scan : FileScan) (befores afters : List SourceState) → GainsOver scan befores afters → (range : AskedRange) (direct shared : List (ℕ × ℕ)) → AreAllOf (IsDirectPair scan range) direct → AreAllOf (IsSharedPair scan range) shared
    → all_asked_times range afters ≤ all_asked_times range befores + (2 * length direct + (length befores + 1) * length shared)
all_counted scan befores afters gains range direct shared all_direct all_shared =
    let most = middle_counted scan range shared all_shared befores afters gains direct all_direct in
    let again = first_counted scan range shared all_shared gains.reruns direct all_direct gains.middles afters gains.again in
    omega (arith, most, again)

-- A range is asked for at most as often as pairs reach it, for no pair is the reason of two asks.
use Rattle.std.proofs.Common.{◌≡◌, ◌≢◌, ℕ, suc, ◌+◌, ◌≤◌, inl, inr, Bool, true, false, cond, eqb, List, [], ◌∷◌, ◌++◌, Some, length, map, refl, sym, ap, ◌∙◌, subst, arith}
use Rattle.std.specs.Prelude.{Option, None, option_map}
use Rattle.std.specs.List.{flat_map, All, AllByRecursion}
use Rattle.std.proofs.lemmas.Bool.{eqb-true}
use Rattle.std.proofs.lemmas.List.Elements.{All-nil, All-cons, All-append, All-head, All-tail}
use Rattle.std.proofs.lemmas.List.Kept.{AllPairs-cons}
use Rattle.vx_base.specs.declared.locations.AskedRange.{AskedRange}
use Rattle.vx_base.specs.Sources.{SourceState}
use Rattle.vx_base.proofs.AllFit.{all-append}
use Rattle.vx_rows.specs.Reads.{Way, directly, through, IsAmong}
use Rattle.vx_rows.specs.Renumbered.{way_renumbered}
use Rattle.vx_drive.specs.Fetched.{AreDistinct}
use Rattle.vx_drive.proofs.Distinct.{differs, distinct_behind, distinct_none, distinct_then}
use Rattle.vx_workers.specs.Reasons.{Reason, chunk_and_segment, taken_by}
use Rattle.vx_execute.specs.Validating.{direct_by, direct_and_segment}
use Rattle.vx_scan.specs.Answer.{FileScan}
use Rattle.vx_scan.specs.Counts.{is_range, times_asked, times_in, asked_times, PieceReaches, IsDirectPair, IsSharedPair, AreAllOf}
use Rattle.vx_scan.specs.FilePlans.{node_of}
use Rattle.vx_scan.specs.Scanned.{AreReasonsFor, IsReasonFor, dictionary_and_segment}

-- ---- what is apart and among others is no more than they are

-- the list with that element, and without
record Holds (x : ℕ × ℕ) (ys : List (ℕ × ℕ)) : Type 0 where
  others : List (ℕ × ℕ)
  count : length ys ≡ suc (length others)
  among : (y : ℕ × ℕ) → x ≢ y → IsAmong y ys → IsAmong y others

holds : (x : ℕ × ℕ) (ys : List (ℕ × ℕ)) → IsAmong x ys → Holds x ys
holds x [] any = absurd any
holds x (y ∷ ys) (inl here) = record { others = ys; count = refl; among = without }
  where
    without : (z : ℕ × ℕ) → x ≢ z → IsAmong z (y ∷ ys) → IsAmong z ys
    without z differs (inl same) = absurd (differs (sym here ∙ same))
    without z differs (inr later) = later
holds x (y ∷ ys) (inr later) = more (holds x ys later)
  where
    more : Holds x ys → Holds x (y ∷ ys)
    more rest = record { others = y ∷ rest.others; count = ap suc rest.count; among = without }
      where
        without : (z : ℕ × ℕ) → x ≢ z → IsAmong z (y ∷ ys) → IsAmong z (y ∷ rest.others)
        without z differs (inl same) = inl same
        without z differs (inr behind) = inr (rest.among z differs behind)

all_others : (x : ℕ × ℕ) (xs ys : List (ℕ × ℕ)) (held : Holds x ys) → All (λ y. x ≢ y) xs → AllByRecursion (λ y. IsAmong y ys) xs → AllByRecursion (λ y. IsAmong y held.others) xs
all_others x [] ys held apart each = tt
all_others x (y ∷ xs) ys held apart each = (held.among y (All-head (λ y. x ≢ y) y xs apart) each.0, all_others x xs ys held (All-tail (λ y. x ≢ y) y xs apart) each.1)

no_more : (xs ys : List (ℕ × ℕ)) → AreDistinct xs → AllByRecursion (λ y. IsAmong y ys) xs → length xs ≤ length ys
no_more [] ys apart each = omega arith
no_more (x ∷ xs) ys apart each =
    let held : Holds x ys = holds x ys each.0 in
    let rest : length xs ≤ length held.others = no_more xs held.others (distinct_behind x xs apart) (all_others x xs ys held (differs x xs apart) each.1) in
    let count = held.count in
    omega (arith, rest, count)

-- ---- the pairs for which a range is asked

-- these pairs are so, apart, and some of those
pub record ArePairs (P : ℕ × ℕ → Type 0) (all pairs : List (ℕ × ℕ)) : Type 1 where
  pub each : AllByRecursion P pairs
  pub distinct : AreDistinct all → AreDistinct pairs
  pub some : (Q : ℕ × ℕ → Type 0) → All Q all → All Q pairs

pub no_pairs : (P : ℕ × ℕ → Type 0) → ArePairs P [] []
no_pairs P = record { each = tt; distinct = λ apart. apart; some = λ Q all. all }

pub one_more : (P : ℕ × ℕ → Type 0) (all pairs : List (ℕ × ℕ)) (pair : ℕ × ℕ) → P pair → ArePairs P all pairs → ArePairs P (pair ∷ all) (pair ∷ pairs)
one_more P all pairs pair is are = record {
  each = (is, are.each);
  distinct = λ apart. AllPairs-cons (λ one two. one ≢ two) pair pairs (are.some (λ other. pair ≢ other) (differs pair all apart)) (are.distinct (distinct_behind pair all apart));
  some = λ Q each. All-cons Q pair pairs (All-head Q pair all each) (are.some Q (All-tail Q pair all each));
}

pub one_passed : (P : ℕ × ℕ → Type 0) (all pairs : List (ℕ × ℕ)) (pair : ℕ × ℕ) → ArePairs P all pairs → ArePairs P (pair ∷ all) pairs
one_passed P all pairs pair are = record {
  each = are.each;
  distinct = λ apart. are.distinct (distinct_behind pair all apart);
  some = λ Q each. are.some Q (All-tail Q pair all each);
}

-- ---- pairs of one list and of another

all_front : {X : Type 0} (P : X → Type 0) (xs ys : List X) → All P (xs ++ ys) → All P xs
all_front P [] ys all = All-nil P
all_front P (x ∷ xs) ys all = All-cons P x xs (All-head P x (xs ++ ys) all) (all_front P xs ys (All-tail P x (xs ++ ys) all))

all_back : {X : Type 0} (P : X → Type 0) (xs ys : List X) → All P (xs ++ ys) → All P ys
all_back P [] ys all = all
all_back P (x ∷ xs) ys all = all_back P xs ys (All-tail P x (xs ++ ys) all)

distinct_front : (xs ys : List (ℕ × ℕ)) → AreDistinct (xs ++ ys) → AreDistinct xs
distinct_front [] ys apart = distinct_none
distinct_front (x ∷ xs) ys apart = AllPairs-cons (λ one two. one ≢ two) x xs (all_front (λ y. x ≢ y) xs ys (differs x (xs ++ ys) apart)) (distinct_front xs ys (distinct_behind x (xs ++ ys) apart))

distinct_back : (xs ys : List (ℕ × ℕ)) → AreDistinct (xs ++ ys) → AreDistinct ys
distinct_back [] ys apart = apart
distinct_back (x ∷ xs) ys apart = distinct_back xs ys (distinct_behind x (xs ++ ys) apart)

-- each of the ones differs from what of the others was taken
cross_taken : (xs ys pairs : List (ℕ × ℕ)) → ((Q : ℕ × ℕ → Type 0) → All Q ys → All Q pairs) → AreDistinct (xs ++ ys) → All (λ x. All (λ y. x ≢ y) pairs) xs
cross_taken [] ys pairs some apart = All-nil (λ x. All (λ y. x ≢ y) pairs)
cross_taken (x ∷ xs) ys pairs some apart =
    All-cons (λ z. All (λ y. z ≢ y) pairs) x xs (some (λ y. x ≢ y) (all_back (λ y. x ≢ y) xs ys (differs x (xs ++ ys) apart))) (cross_taken xs ys pairs some (distinct_behind x (xs ++ ys) apart))

pub pairs_then : (P : ℕ × ℕ → Type 0) (ones more twos others : List (ℕ × ℕ)) → ArePairs P ones more → ArePairs P twos others → ArePairs P (ones ++ twos) (more ++ others)
pairs_then P ones more twos others first second = record {
  each = all-append P more others first.each second.each;
  distinct = λ apart.
      distinct_then more others (first.distinct (distinct_front ones twos apart)) (second.distinct (distinct_back ones twos apart))
      (first.some (λ x. All (λ y. x ≢ y) others) (cross_taken ones twos others second.some apart));
  some = λ Q all. All-append Q more others (first.some Q (all_front Q ones twos all)) (second.some Q (all_back Q ones twos all));
}

among_all : (P : ℕ × ℕ → Type 0) (all : List (ℕ × ℕ)) → AreAllOf P all → (pairs : List (ℕ × ℕ)) → AllByRecursion P pairs → AllByRecursion (λ pair. IsAmong pair all) pairs
among_all P all are [] each = tt
among_all P all are (pair ∷ pairs) each = (are pair each.0, among_all P all are pairs each.1)

-- such pairs are no more than all of them
pub pairs_most : (P : ℕ × ℕ → Type 0) (from pairs all : List (ℕ × ℕ)) → ArePairs P from pairs → AreDistinct from → AreAllOf P all → length pairs ≤ length all
pairs_most P from pairs all are apart all_are = no_more pairs all (are.distinct apart) (among_all P all all_are pairs are.each)

-- ---- the ranges that are asked for

same_range : (one other : AskedRange) → one.offset ≡ other.offset → one.length ≡ other.length → one ≡ other
same_range one other offset length = λ i. record { offset = offset i; length = length i }

by_range : (one other : AskedRange) (offsets lengths : Bool) → eqb one.offset other.offset ≡ offsets → eqb one.length other.length ≡ lengths → cond offsets lengths false ≡ true → one ≡ other
by_range one other true true first second is = same_range one other (eqb-true one.offset other.offset first) (eqb-true one.length other.length second)
by_range one other true false first second is = absurd cc
by_range one other false lengths first second is = absurd cc

pub is_same : (one other : AskedRange) → is_range one other ≡ true → one ≡ other
is_same one other is = by_range one other (eqb one.offset other.offset) (eqb one.length other.length) refl refl is

-- there are as many reasons as ranges, each the reason for the range at its place
abbrev pub AreBacked : (Reason → AskedRange → Type 0) → List Reason → List AskedRange → Type 0
AreBacked Backs [] [] = Unit {0}
AreBacked Backs (reason ∷ reasons) (range ∷ ranges) = Backs reason range × AreBacked Backs reasons ranges
AreBacked Backs reasons ranges = ⊥

-- which segment is asked for through the values of which dictionary, by these numbers of dictionaries
abbrev pub taken_as : (ℕ → ℕ) → Reason → List (ℕ × ℕ)
taken_as number reason = taken_by (way_renumbered number reason.way) reason.segment

-- As many as the range is asked for: pairs of a chunk and a segment that reach it directly, and pairs of a dictionary.
pub record Counted (P : ℕ → ℕ → Way → Type 0) (count : ℕ) (directs takes : List (ℕ × ℕ)) : Type 1 where
  pub direct : List (ℕ × ℕ)
  pub shared : List (ℕ × ℕ)
  pub sum : count ≡ length direct + length shared
  pub are_direct : ArePairs (λ pair. P pair.0 pair.1 directly) directs direct
  pub are_shared : ArePairs (λ pair. (piece : ℕ) × P piece pair.1 (through pair.0)) takes shared

module _ (P : ℕ → ℕ → Way → Type 0) (number : ℕ → ℕ) where
  -- a reason passed over
  passed : (count chunk segment : ℕ) (way : Way) (directs takes : List (ℕ × ℕ)) → Counted P count directs takes → Counted P (0 + count) (direct_by way chunk segment ++ directs) (taken_by (way_renumbered number way) segment ++ takes)
  passed count chunk segment directly directs takes counted =
      let sum = counted.sum in
      record {
        direct = counted.direct;
        shared = counted.shared;
        sum = omega (arith, sum);
        are_direct = one_passed (λ pair. P pair.0 pair.1 directly) directs counted.direct (chunk, segment) counted.are_direct;
        are_shared = counted.are_shared;
      }
  passed count chunk segment (through take) directs takes counted =
      let sum = counted.sum in
      record {
        direct = counted.direct;
        shared = counted.shared;
        sum = omega (arith, sum);
        are_direct = counted.are_direct;
        are_shared = one_passed (λ pair. (piece : ℕ) × P piece pair.1 (through pair.0)) takes counted.shared (number take, segment) counted.are_shared;
      }

  -- and one for the range
  taken : (count chunk segment : ℕ) (way : Way) (directs takes : List (ℕ × ℕ)) → P chunk segment (way_renumbered number way) → Counted P count directs takes → Counted P (1 + count) (direct_by way chunk segment ++ directs) (taken_by (way_renumbered number way) segment ++ takes)
  taken count chunk segment directly directs takes is counted =
      let sum = counted.sum in
      record {
        direct = (chunk, segment) ∷ counted.direct;
        shared = counted.shared;
        sum = omega (arith, sum);
        are_direct = one_more (λ pair. P pair.0 pair.1 directly) directs counted.direct (chunk, segment) is counted.are_direct;
        are_shared = counted.are_shared;
      }
  taken count chunk segment (through take) directs takes is counted =
      let sum = counted.sum in
      record {
        direct = counted.direct;
        shared = (number take, segment) ∷ counted.shared;
        sum = omega (arith, sum);
        are_direct = counted.are_direct;
        are_shared = one_more (λ pair. (piece : ℕ) × P piece pair.1 (through pair.0)) takes counted.shared (number take, segment) (chunk, is) counted.are_shared;
      }

  module _ (range : AskedRange) (Backs : Reason → AskedRange → Type 0) (meets : (reason : Reason) → Backs reason range → P reason.chunk reason.segment (way_renumbered number reason.way)) where
    by_bit : (reason : Reason) (other : AskedRange) (count : ℕ) (directs takes : List (ℕ × ℕ)) (b : Bool) → is_range range other ≡ b → Backs reason other → Counted P count directs takes
        → Counted P (cond b 1 0 + count) (direct_and_segment reason ++ directs) (taken_as number reason ++ takes)
    by_bit reason other count directs takes true same is counted =
        taken count reason.chunk reason.segment reason.way directs takes (meets reason (subst (Backs reason) (sym (is_same range other same)) is)) counted
    by_bit reason other count directs takes false same is counted = passed count reason.chunk reason.segment reason.way directs takes counted

    pub counted : (reasons : List Reason) (ranges : List AskedRange) → AreBacked Backs reasons ranges → Counted P (times_asked range ranges) (flat_map direct_and_segment reasons) (flat_map (taken_as number) reasons)
    counted [] [] are = record { direct = []; shared = []; sum = refl; are_direct = no_pairs (λ pair. P pair.0 pair.1 directly); are_shared = no_pairs (λ pair. (piece : ℕ) × P piece pair.1 (through pair.0)) }
    counted [] (other ∷ ranges) are = absurd are
    counted (reason ∷ reasons) [] are = absurd are
    counted (reason ∷ reasons) (other ∷ ranges) are =
        by_bit reason other (times_asked range ranges) (flat_map direct_and_segment reasons) (flat_map (taken_as number) reasons) (is_range range other) refl are.0 (counted reasons ranges are.1)

    -- and so no more than there are
    pub counted_most : (reasons : List Reason) (ranges : List AskedRange) → AreBacked Backs reasons ranges → AreDistinct (flat_map direct_and_segment reasons) → AreDistinct (flat_map (taken_as number) reasons)
        → (direct shared : List (ℕ × ℕ)) → AreAllOf (λ pair. P pair.0 pair.1 directly) direct → AreAllOf (λ pair. (piece : ℕ) × P piece pair.1 (through pair.0)) shared → times_asked range ranges ≤ length direct + length shared
    counted_most reasons ranges are once_a_chunk once_a_dictionary direct shared all_direct all_shared =
        let these : Counted P (times_asked range ranges) (flat_map direct_and_segment reasons) (flat_map (taken_as number) reasons) = counted reasons ranges are in
        let ones = pairs_most (λ pair. P pair.0 pair.1 directly) (flat_map direct_and_segment reasons) these.direct direct these.are_direct once_a_chunk all_direct in
        let others = pairs_most (λ pair. (piece : ℕ) × P piece pair.1 (through pair.0)) (flat_map (taken_as number) reasons) these.shared shared these.are_shared once_a_dictionary all_shared in
        let sum = these.sum in
        omega (arith, ones, others, sum)

-- ---- pairs of a chunk, of which some are direct

direct_pair : (chunk segment : ℕ) (way : Way) (chunks directs : List (ℕ × ℕ)) → ArePairs (λ pair. Unit {0}) chunks directs → ArePairs (λ pair. Unit {0}) ((chunk, segment) ∷ chunks) (direct_by way chunk segment ++ directs)
direct_pair chunk segment directly chunks directs are = one_more (λ pair. Unit {0}) chunks directs (chunk, segment) tt are
direct_pair chunk segment (through take) chunks directs are = one_passed (λ pair. Unit {0}) chunks directs (chunk, segment) are

direct_pairs : (reasons : List Reason) → ArePairs (λ pair. Unit {0}) (map chunk_and_segment reasons) (flat_map direct_and_segment reasons)
direct_pairs [] = no_pairs (λ pair. Unit {0})
direct_pairs (reason ∷ reasons) = direct_pair reason.chunk reason.segment reason.way (map chunk_and_segment reasons) (flat_map direct_and_segment reasons) (direct_pairs reasons)

pub direct_once : (reasons : List Reason) → AreDistinct (map chunk_and_segment reasons) → AreDistinct (flat_map direct_and_segment reasons)
direct_once reasons apart = (direct_pairs reasons).distinct apart

-- ---- what a source was asked for

times_then : (range : AskedRange) (ones twos : List AskedRange) → times_asked range (ones ++ twos) ≡ times_asked range ones + times_asked range twos
times_then range [] twos = omega arith
times_then range (one ∷ ones) twos = let rest = times_then range ones twos in omega (arith, rest)

-- where the source gained these ranges
pub gained_times : (range : AskedRange) (ranges : List AskedRange) (before after : SourceState) → after.asked ≡ option_map (λ asked. asked ++ ranges) before.asked → asked_times range after ≤ asked_times range before + times_asked range ranges
gained_times range ranges before after gained = by_case before.asked after.asked gained
  where
    by_case : (old new : Option (List AskedRange)) → new ≡ option_map (λ asked. asked ++ ranges) old → times_in range new ≤ times_in range old + times_asked range ranges
    by_case None new is = let none : times_in range new ≡ 0 = ap (times_in range) is in omega (arith, none)
    by_case (Some asked) new is = let all : times_in range new ≡ times_asked range (asked ++ ranges) = ap (times_in range) is in let more = times_then range asked ranges in omega (arith, all, more)

-- ---- the reasons of a scan

pub scan_backed : (scan : FileScan) (reasons : List Reason) (ranges : List AskedRange) → AreReasonsFor scan reasons ranges → AreBacked (IsReasonFor scan) reasons ranges
scan_backed scan [] [] are = tt
scan_backed scan [] (range ∷ ranges) are = absurd are
scan_backed scan (reason ∷ reasons) [] are = absurd are
scan_backed scan (reason ∷ reasons) (range ∷ ranges) are = (are.0, scan_backed scan reasons ranges are.1)

pub reason_reaches : (scan : FileScan) (range : AskedRange) (reason : Reason) → IsReasonFor scan reason range → PieceReaches scan range reason.chunk reason.segment (way_renumbered (node_of scan.projection) reason.way)
reason_reaches scan range reason is = record { rows = is.rows; here = is.here; reaches = is.reaches; location = is.location }

pub asks_counted : (scan : FileScan) (reasons : List Reason) (ranges : List AskedRange) → AreReasonsFor scan reasons ranges → AreDistinct (map chunk_and_segment reasons) → AreDistinct (flat_map (dictionary_and_segment scan.projection) reasons)
    → (range : AskedRange) (direct shared : List (ℕ × ℕ)) → AreAllOf (IsDirectPair scan range) direct → AreAllOf (IsSharedPair scan range) shared → times_asked range ranges ≤ length direct + length shared
asks_counted scan reasons ranges are once_a_chunk once_a_dictionary range direct shared all_direct all_shared =
    counted_most (PieceReaches scan range) (node_of scan.projection) range (IsReasonFor scan) (reason_reaches scan range) reasons ranges (scan_backed scan reasons ranges are) (direct_once reasons once_a_chunk) once_a_dictionary direct shared all_direct all_shared

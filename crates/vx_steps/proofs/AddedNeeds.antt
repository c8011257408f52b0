-- Needs are added to the tallies: their leaves one by one, their segments by runs of needs that name one.
use Rattle.std.proofs.Common.{◌≡◌, ℕ, ◌+◌, ◌<◌, ◌≤◌, ◌==◌, Bool, true, false, cond, List, [], ◌∷◌, ◌++◌, Result, Ok, Err, length, map, take, sym, ap, ◌∙◌, subst, arith}
use Rattle.std.specs.Prelude.{OnOk, if◌then◌else◌}
use Rattle.std.specs.BTreeMap.{BTreeMap}
use Rattle.std.specs.List.{count_by}
use Rattle.std.specs.declared.alloc.AllocError.{AllocError}
use Rattle.std.proofs.lemmas.List.{map-append, take_all, take_more}
use Rattle.std.proofs.lemmas.List.Sums.{sum_by-append, sum_by_push}
use Rattle.vx_steps.specs.declared.leaf_reads.LeafRead.{LeafRead}
use Rattle.vx_steps.specs.declared.number_table.NumberTable.{NumberTable}
use Rattle.vx_steps.specs.declared.placed_reads.PlacedRead.{PlacedRead}
use Rattle.vx_steps.specs.declared.still_read.StillRead.{StillRead}
use Rattle.vx_steps.specs.Counts.{count_in}
use Rattle.vx_steps.specs.NumberTable.{number_in}
use Rattle.vx_steps.specs.Pieces.{read_of}
use Rattle.vx_steps.specs.SegmentRuns.{NamesAt}
use Rattle.vx_steps.specs.StillRead.{leaf_count, segment_count, CountsLeaf, CountsLeaves, CountsMore, CountsSegments, IsTallyOf}
use Rattle.vx_steps.proofs.Needing.{placed_at}
use Rattle.vx_steps.proofs.SegmentRuns.{named_inside, named_is}

-- how many of the first so many pass a test, and one more
counted_more : (p : LeafRead → Bool) (needs : List PlacedRead) (i : ℕ) → i < length needs → count_by p (map read_of (take (i + 1) needs)) ≡ count_by p (map read_of (take i needs)) + cond (p (read_of (placed_at needs i))) 1 0
counted_more p needs i inside =
    let one : take (i + 1) needs ≡ take i needs ++ placed_at needs i ∷ [] = take_more needs i (record { leaf = 0; segment = 0; from = 0; last = 0 }) inside in
    ap (λ (xs : List PlacedRead). count_by p (map read_of xs)) one ∙ ap (count_by p) (map-append read_of (take i needs) (placed_at needs i ∷ [])) ∙ sum_by_push (λ (read : LeafRead). cond (p read) 1 0) (map read_of (take i needs)) (read_of (placed_at needs i))

-- ---- leaves

one_more : (b : Bool) (new old first count more : ℕ) → new ≡ (if b then old + 1 else old) → old ≡ first + count → more ≡ count + cond b 1 0 → new ≡ first + more
one_more true new old first count more is was counts = omega arith
one_more false new old first count more is was counts = omega arith

pub leaves_more : (needs : List PlacedRead) (i : ℕ) (first old new : NumberTable) → i < length needs → CountsLeaves (map read_of (take i needs)) first old → CountsLeaf (placed_at needs i).leaf old new → CountsLeaves (map read_of (take (i + 1) needs)) first new
leaves_more needs i first old new inside before one leaf =
    one_more ((placed_at needs i).leaf == leaf) (number_in new leaf) (number_in old leaf) (number_in first leaf) (leaf_count leaf (map read_of (take i needs))) (leaf_count leaf (map read_of (take (i + 1) needs))) (one leaf) (before leaf) (counted_more (λ (read : LeafRead). read.leaf == leaf) needs i inside)

pub all_leaves : (needs : List PlacedRead) (count : ℕ) (old new : NumberTable) → length needs ≤ count → CountsLeaves (map read_of (take count needs)) old new → CountsLeaves (map read_of needs) old new
all_leaves needs count old new all counts = subst (λ (ns : List PlacedRead). CountsLeaves (map read_of ns) old new) (take_all count needs all) counts

-- ---- segments

-- The segments of the first so many needs are counted, but for the last so many of them: these name the segment of the need
-- at the place.
abbrev pub AreCountedBut : List PlacedRead → ℕ → ℕ → BTreeMap ℕ ℕ → BTreeMap ℕ ℕ → Type 0
AreCountedBut needs i run old new = (segment : ℕ) → count_in new segment + (if (placed_at needs i).segment == segment then run else 0) ≡ count_in old segment + segment_count segment (map read_of (take i needs))

none_left : (b : Bool) (n m : ℕ) → n ≡ m → n + (if b then 0 else 0) ≡ m
none_left true n m e = omega arith
none_left false n m e = omega arith

pub none_counted : (needs : List PlacedRead) (counts : BTreeMap ℕ ℕ) → AreCountedBut needs 0 0 counts counts
none_counted needs counts segment = none_left ((placed_at needs 0).segment == segment) (count_in counts segment) (count_in counts segment + 0) (omega arith)

on_more : (b : Bool) (old run first count more : ℕ) → old + (if b then run else 0) ≡ first + count → more ≡ count + cond b 1 0 → old + (if b then run + 1 else 0) ≡ first + more
on_more true old run first count more was counts = omega arith
on_more false old run first count more was counts = omega arith

-- the run goes on
pub run_longer : (needs : List PlacedRead) (i run : ℕ) (first old : BTreeMap ℕ ℕ) → i < length needs → NamesAt needs (i + 1) (placed_at needs i).segment → AreCountedBut needs i run first old → AreCountedBut needs (i + 1) (run + 1) first old
run_longer needs i run first old inside names before segment =
    let next = named_is needs (i + 1) (placed_at needs i).segment (named_inside needs (i + 1) (placed_at needs i).segment names) names in
    ap (λ (s : ℕ). count_in old segment + (if s == segment then run + 1 else 0)) next ∙ on_more ((placed_at needs i).segment == segment) (count_in old segment) run (count_in first segment) (segment_count segment (map read_of (take i needs))) (segment_count segment (map read_of (take (i + 1) needs))) (before segment) (counted_more (λ (read : LeafRead). read.segment == segment) needs i inside)

then_counted : (b : Bool) (old new run first count more : ℕ) → new ≡ (if b then old + (run + 1) else old) → old + (if b then run else 0) ≡ first + count → more ≡ count + cond b 1 0 → new ≡ first + more
then_counted true old new run first count more is was counts = omega arith
then_counted false old new run first count more is was counts = omega arith

-- the run ends, and is counted
pub run_counted : (needs : List PlacedRead) (i run : ℕ) (first old new : BTreeMap ℕ ℕ) → i < length needs → CountsMore (placed_at needs i).segment (run + 1) old new → AreCountedBut needs i run first old → AreCountedBut needs (i + 1) 0 first new
run_counted needs i run first old new inside more before segment =
    none_left ((placed_at needs (i + 1)).segment == segment) (count_in new segment) (count_in first segment + segment_count segment (map read_of (take (i + 1) needs))) (then_counted ((placed_at needs i).segment == segment) (count_in old segment) (count_in new segment) run (count_in first segment) (segment_count segment (map read_of (take i needs))) (segment_count segment (map read_of (take (i + 1) needs))) (more segment) (before segment) (counted_more (λ (read : LeafRead). read.segment == segment) needs i inside))

none_run : (b : Bool) (n m run : ℕ) → run ≡ 0 → n + (if b then run else 0) ≡ m → n ≡ m
none_run true n m run none e = omega arith
none_run false n m run none e = omega arith

-- all are counted where no run is left
pub all_segments : (needs : List PlacedRead) (i run : ℕ) (old new : BTreeMap ℕ ℕ) → length needs ≤ i → run ≡ 0 → AreCountedBut needs i run old new → CountsSegments (map read_of needs) old new
all_segments needs i run old new all none counts segment =
    none_run ((placed_at needs i).segment == segment) (count_in new segment) (count_in old segment + segment_count segment (map read_of needs)) run none (counts segment ∙ ap (λ (ns : List PlacedRead). count_in old segment + segment_count segment (map read_of ns)) (take_all i needs all))

-- ---- the tallies

-- those of the reads, and of the reads that are added
tally_more : (old new : StillRead) (more : List LeafRead) → CountsLeaves more old.leaves new.leaves → CountsSegments more old.segments new.segments → (reads : List LeafRead) → IsTallyOf old reads → IsTallyOf new (reads ++ more)
tally_more old new more leaves segments reads tally = record {
  leaves = λ leaf. leaves leaf ∙ ap (λ (n : ℕ). n + leaf_count leaf more) (tally.leaves leaf) ∙ sym (sum_by-append (λ (read : LeafRead). cond (read.leaf == leaf) 1 0) reads more);
  segments = λ segment. segments segment ∙ ap (λ (n : ℕ). n + segment_count segment more) (tally.segments segment) ∙ sym (sum_by-append (λ (read : LeafRead). cond (read.segment == segment) 1 0) reads more);
}

pub needs_added : (result : Result (Unit {0}) AllocError) (old new : StillRead) (more : List LeafRead) → CountsLeaves more old.leaves new.leaves → OnOk result (CountsSegments more old.segments new.segments) → OnOk result ((reads : List LeafRead) → IsTallyOf old reads → IsTallyOf new (reads ++ more))
needs_added (Ok x) old new more leaves segments = tally_more old new more leaves segments
needs_added (Err e) old new more leaves segments = tt

-- The lines of rows that lie in runs, one run at a time.
use Rattle.std.proofs.Common.{◌≡◌, ℕ, zero, suc, ◌+◌, ◌-◌, ◌<◌, ◌≤◌, Bool, true, false, leb, leb-true, leb-false, if◌then◌else◌, List, [], ◌∷◌, ◌++◌, length, map, get_or, drop, min, Some, refl, sym, ap, ◌∙◌, append_assoc, add-one, arith}
use Rattle.std.specs.List.{repeat, slice_get, slice_range}
use Rattle.std.specs.List.Sorted.{IsPartitionedBy, IsPartitionPoint}
use Rattle.std.proofs.Math.Seq.{drop-append_seam}
use Rattle.std.proofs.lemmas.List.{append-nil, length-append, length-map}
use Rattle.std.proofs.lemmas.List.Sorted.{IsNonDecreasingBy-from_default, IsPartitionedBy-leb}
use Rattle.scan_output.specs.RowText.{line, lines}
use Rattle.scan_output.specs.RunLines.{IsRunRange}
use Rattle.scan_output.proofs.ColumnLines.{line_more, valid_at, length-valid}
use Rattle.vx_base.specs.Data.{DataType, Datum, null}
use Rattle.vx_base.specs.RunRows.{Rise, HasRow, start_of}
use Rattle.vx_base.specs.Runs.{spread}
use Rattle.vx_base.specs.Slots.{where_valid}
use Rattle.vx_columns.proofs.SpreadRuns.{start_next, rise_at, start_up, spread_len, row_of}

-- ---- the run that has a row

-- the ends rise
above : (from : ℕ) (ends : List ℕ) (place : ℕ) → Rise from ends → place < length ends → from < get_or ends place 0
above from ends place rise lt = omega (arith, rise_at from ends place rise lt, start_up from ends place rise (omega arith))

ends_rise : (from : ℕ) (ends : List ℕ) → Rise from ends → (i j : ℕ) → i ≤ j → j < length ends → get_or ends i 0 ≤ get_or ends j 0
ends_rise from [] rise i j le lt = absurd (omega arith)
ends_rise from (end ∷ ends) rise zero zero le lt = omega arith
ends_rise from (end ∷ ends) rise zero (suc j) le lt = omega (arith, above end ends j rise.1 (omega arith))
ends_rise from (end ∷ ends) rise (suc i) zero le lt = absurd (omega arith)
ends_rise from (end ∷ ends) rise (suc i) (suc j) le lt = ends_rise end ends rise.1 i j (omega arith) (omega arith)

-- no end that is up to the row comes after one that is past it
pub ends_parted : (ends : List ℕ) (row : ℕ) → Rise 0 ends → IsPartitionedBy (λ end. leb end row) ends
ends_parted ends row rise = IsPartitionedBy-leb (λ end. end) ends row (IsNonDecreasingBy-from_default (λ end. end) ends 0 (ends_rise 0 ends rise))

passed : (ends : List ℕ) (row place : ℕ) → place ≤ length ends → ((k : ℕ) → k < place → get_or ends k 0 ≤ row) → start_of 0 ends place ≤ row
passed ends row zero within h = omega arith
passed ends row (suc place) within h = omega (arith, start_next 0 ends place (omega arith), h place (omega arith))

-- a run that begins up to the row isn't behind the last one
run_there : (from : ℕ) (ends : List ℕ) (row place : ℕ) → place ≤ length ends → start_of from ends place ≤ row → row < start_of from ends (length ends) → place < length ends
run_there from [] row zero within begins lt = absurd (omega (arith, begins, lt))
run_there from [] row (suc place) within begins lt = absurd (omega (arith, within))
run_there from (end ∷ ends) row zero within begins lt = omega arith
run_there from (end ∷ ends) row (suc place) within begins lt = omega (arith, run_there end ends row place (omega (arith, within)) begins lt)

pub run_found : (ends : List ℕ) (row place : ℕ) → place ≤ length ends → IsPartitionPoint (λ end. leb end row ≡ true) (λ end. leb end row ≡ false) ends place → row < start_of 0 ends (length ends) → HasRow ends row place
run_found ends row place within point lt =
    let from = passed ends row place within (λ k h. leb-true (get_or ends k 0) row (point.0 k 0 (omega arith) h)) in
    let there = run_there 0 ends row place within from lt in
    record { there = there; from = from; below = leb-false (get_or ends place 0) row (point.1 place 0 (omega arith) there) }

-- ---- the runs of a range, one after another

-- the run at that place has the row, unless the range ends there
pub record RunAt (ends : List ℕ) (start to row run : ℕ) : Type 0 where
  pub low : start ≤ row
  pub inside : row ≤ to
  pub from : row < to → start_of 0 ends run ≤ row
  pub there : row < to → run < length ends
  pub below : row < to → row < get_or ends run 0

pub run_first : (ends : List ℕ) (start to run : ℕ) → IsRunRange ends start to → (start < start_of 0 ends (length ends) → HasRow ends start run) → RunAt ends start to start run
run_first ends start to run range found = record {
  low = omega arith;
  inside = range.forwards;
  from = λ lt. (found (omega (arith, range.inside))).from;
  there = λ lt. (found (omega (arith, range.inside))).there;
  below = λ lt. (found (omega (arith, range.inside))).below;
}

pub run_next : (ends : List ℕ) (start to row run end : ℕ) → IsRunRange ends start to → row < to → end ≡ min (get_or ends run 0) to → RunAt ends start to row run → RunAt ends start to end (run + 1)
run_next ends start to row run end range lt is at =
    let there = at.there lt in
    let next : start_of 0 ends (run + 1) ≡ get_or ends run 0 = rw add-one (start_next 0 ends run there) in
    let begins : end < to → start_of 0 ends (run + 1) ≡ end = λ h. omega (arith, next, is) in
    let left : end < to → run + 1 < length ends = λ h. run_there 0 ends end (run + 1) (omega (arith, there)) (omega (arith, begins h)) (omega (arith, h, range.inside)) in
    record {
      low = omega (arith, at.low, at.below lt, is);
      inside = omega (arith, is);
      from = λ h. omega (arith, begins h);
      there = left;
      below = λ h. omega (arith, begins h, rise_at 0 ends (run + 1) range.rise (left h));
    }

-- ---- the lines of a run

pub repeat_more : (n : ℕ) (text : List ℕ) → repeat n text ++ text ≡ repeat (n + 1) text
repeat_more n text = push n ∙ ap (λ (k : ℕ). repeat k text) (next n)
  where
    next : (k : ℕ) → suc k ≡ k + 1
    next k = omega arith

    push : (k : ℕ) → repeat k text ++ text ≡ repeat (suc k) text
    push zero = sym (append-nil text)
    push (suc k) = append_assoc text (repeat k text) text ∙ ap (λ (more : List ℕ). text ++ more) (push k)

-- so many rows more of one value
lines_again : (t : DataType) (values : List Datum) (start k row : ℕ) (v : Datum) (out before : List ℕ) → start ≤ row → ((i : ℕ) → row ≤ i → i < row + k → slice_get values i ≡ Some v) → out ≡ before ++ lines t (slice_range values start row) → out ++ repeat k (line t v) ≡ before ++ lines t (slice_range values start (row + k))
lines_again t values start zero row v out before low alike so_far =
    let here : row ≡ row + 0 = omega arith in
    append-nil out ∙ so_far ∙ ap (λ (n : ℕ). before ++ lines t (slice_range values start n)) here
lines_again t values start (suc k) row v out before low alike so_far =
    let more = line_more t values start row v out (out ++ line t v) before low (alike row (omega arith) (omega arith)) refl so_far in
    let next : (row + 1) + k ≡ row + suc k = omega arith in
    sym (append_assoc out (line t v) (repeat k (line t v)))
    ∙ lines_again t values start k (row + 1) v (out ++ line t v) before (omega arith) (λ i ge lt. alike i (omega arith) (omega arith)) more
    ∙ ap (λ (n : ℕ). before ++ lines t (slice_range values start n)) next

-- what was appended leaves what stood before it
pub still_there : (out one text : List ℕ) → one ≡ out ++ text → length out ≤ length one
still_there out one text made = omega (arith, ap length made, length-append out text)

-- the line of a run's value, and copies of it for the run's other rows
pub run_more : (t : DataType) (slots : List Datum) (ends : List ℕ) (start to row run end from : ℕ) (v : Datum) (out one more before : List ℕ) → length ends ≡ length slots → IsRunRange ends start to → row < to → end ≡ min (get_or ends run 0) to → from ≡ length out → RunAt ends start to row run → slice_get slots run ≡ Some v
    → one ≡ out ++ line t v → more ≡ one ++ repeat ((end - row) - 1) (drop from one) → out ≡ before ++ lines t (slice_range (spread 0 slots ends) start row) → more ≡ before ++ lines t (slice_range (spread 0 slots ends) start end)
run_more t slots ends start to row run end from v out one more before same range lt is there at here made copied so_far =
    let values = spread 0 slots ends in
    let count = (end - row) - 1 in
    let text = line t v in
    let rest : drop from one ≡ text = ap (λ (k : ℕ). drop k one) there ∙ ap (drop (length out)) made ∙ drop-append_seam out text in
    let alike : (i : ℕ) → row ≤ i → i < row + suc count → slice_get values i ≡ Some v = λ i ge less. row_of slots ends i run same range.rise (record { there = at.there lt; from = omega (arith, at.from lt, ge); below = omega (arith, at.below lt, is, less) }) ∙ here in
    let all : row + suc count ≡ end = omega (arith, at.below lt, is, lt) in
    copied ∙ ap (λ (copy : List ℕ). one ++ repeat count copy) rest ∙ ap (λ (o : List ℕ). o ++ repeat count text) made ∙ append_assoc out text (repeat count text)
    ∙ lines_again t values start (suc count) row v out before at.low alike so_far
    ∙ ap (λ (n : ℕ). before ++ lines t (slice_range values start n)) all

-- the same where the runs' values are valid or not
pub slot_runs : (t : DataType) (mask : List Bool) (slots : List Datum) (ends : List ℕ) (start to row run end from : ℕ) (bit : Bool) (v : Datum) (out one more before : List ℕ) → length mask ≡ length slots → length ends ≡ length slots → IsRunRange ends start to → row < to → end ≡ min (get_or ends run 0) to → from ≡ length out → RunAt ends start to row run
    → slice_get mask run ≡ Some bit → slice_get slots run ≡ Some v → one ≡ out ++ line t (if bit then v else null) → more ≡ one ++ repeat ((end - row) - 1) (drop from one)
    → out ≡ before ++ lines t (slice_range (spread 0 (where_valid mask slots) ends) start row) → more ≡ before ++ lines t (slice_range (spread 0 (where_valid mask slots) ends) start end)
slot_runs t mask slots ends start to row run end from bit v out one more before valid same range lt is there at bit_at v_at made copied so_far =
    run_more t (where_valid mask slots) ends start to row run end from (if bit then v else null) out one more before (same ∙ sym (length-valid mask slots valid)) range lt is there at (valid_at mask slots run bit v bit_at v_at) made copied so_far

-- ---- the range

pub range_of_runs : (values rows : List Datum) (ends : List ℕ) (start end : ℕ) → spread 0 values ends ≡ rows → length ends ≡ length values → Rise 0 ends → start ≤ end → end ≤ length rows → IsRunRange ends start end
range_of_runs values rows ends start end is same rise forwards inside =
    record { rise = rise; forwards = forwards; inside = omega (arith, spread_len 0 values ends same rise, ap length is) }

-- as many ends as slots
pub ends_of_slots : {X : Type 0} (f : X → Datum) (mask : List Bool) (xs : List X) (values : List Datum) (ends : List ℕ) → length mask ≡ length xs → where_valid mask (map f xs) ≡ values → length ends ≡ length values → length ends ≡ length xs
ends_of_slots {X} f mask xs values ends valid is same = same ∙ sym (ap length is) ∙ length-valid mask (map f xs) (valid ∙ sym (length-map xs f)) ∙ length-map xs f

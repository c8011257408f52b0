-- Ranges of masks and the rows that they select, and columns one behind another.
use Rattle.std.proofs.Common.{◌≡◌, ℕ, ◌+◌, ◌-◌, ◌≤◌, Bool, true, List, [], ◌∷◌, ◌++◌, length, take, drop, ap, ◌∙◌, arith}
use Rattle.std.specs.Prelude.{slice_range}
use Rattle.std.specs.List.{All, AllByRecursion}
use Rattle.std.proofs.Math.Seq.{take-add}
use Rattle.std.proofs.lemmas.List.{length-append, length-drop, length-take}
use Rattle.std.proofs.lemmas.List.Elements.{All-drop, All-take}
use Rattle.vx_base.specs.Columns.{ColumnData}
use Rattle.vx_base.specs.Masks.{true_count}
use Rattle.vx_picking.specs.Rows.{rows_of}
use Rattle.vx_picking.proofs.SelectedRows.{rows_append, rows_count}

-- ---- ranges of a mask

pub range_is : (xs : List Bool) (from count : ℕ) → take (from + count) xs ≡ take from xs ++ slice_range xs from (from + count)
range_is xs from count =
    let e : from + count - from ≡ count = omega arith in
    rw e (take-add from count xs)

pub length_range : (xs : List Bool) (from count : ℕ) → length (slice_range xs from (from + count)) ≤ count
length_range xs from count =
    let e : from + count - from ≡ count = omega arith in
    rw e (omega (arith, length-take count (drop from xs)))

pub length_between : (xs : List Bool) (from to : ℕ) → from ≤ to → to ≤ length xs → length (slice_range xs from to) ≡ to - from
length_between xs from to forwards inside = omega (arith, length-take (to - from) (drop from xs), length-drop from xs)

pub all_between : (xs : List Bool) (from to : ℕ) → All (λ bit. bit ≡ true) xs → All (λ bit. bit ≡ true) (slice_range xs from to)
all_between xs from to all = All-take (λ bit. bit ≡ true) (to - from) (drop from xs) (All-drop (λ bit. bit ≡ true) from xs all)

count_append : (xs ys : List Bool) → true_count (xs ++ ys) ≡ true_count xs + true_count ys
count_append xs ys =
    let rows : length (rows_of 0 (xs ++ ys)) ≡ length (rows_of 0 xs) + length (rows_of (0 + length xs) ys) = ap length (rows_append 0 xs ys) ∙ length-append (rows_of 0 xs) (rows_of (0 + length xs) ys) in
    omega (arith, rows, rows_count 0 (xs ++ ys), rows_count 0 xs, rows_count (0 + length xs) ys)

-- so many more rows are in the range as are selected there
pub count_more : (xs : List Bool) (from count : ℕ) → true_count (take (from + count) xs) ≡ true_count (take from xs) + true_count (slice_range xs from (from + count))
count_more xs from count = ap true_count (range_is xs from count) ∙ count_append (take from xs) (slice_range xs from (from + count))

-- ---- columns one behind another

pub all_pushed : (P : ColumnData → Type 0) (xs : List ColumnData) (x : ColumnData) → AllByRecursion P xs → P x → AllByRecursion P (xs ++ x ∷ [])
all_pushed P [] x h p = (p, tt)
all_pushed P (y ∷ xs) x h p = (h.0, all_pushed P xs x h.1 p)

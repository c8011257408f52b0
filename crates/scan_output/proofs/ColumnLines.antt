-- The lines of a range of rows, one row at a time.
use Rattle.std.proofs.Common.{◌≡◌, ℕ, zero, suc, ◌+◌, ◌<◌, ◌≤◌, Bool, if◌then◌else◌, List, [], ◌∷◌, ◌++◌, length, map, get_or, Some, refl, sym, ap, ◌∙◌, append_assoc, arith}
use Rattle.std.specs.List.{slice_get, slice_range}
use Rattle.std.proofs.lemmas.List.{append-nil, length-map}
use Rattle.std.proofs.lemmas.Option.{slice_get_within, get_or_from_slice_get, slice_get-get_or}
use Rattle.scan_output.specs.RowText.{line, lines}
use Rattle.scan_output.proofs.Ranges.{range_more, range_none}
use Rattle.vx_base.specs.Data.{DataType, Datum, null}
use Rattle.vx_base.specs.Slots.{where_valid}

lines_more : (t : DataType) (vs : List Datum) (v : Datum) → lines t (vs ++ v ∷ []) ≡ lines t vs ++ line t v
lines_more t [] v = append-nil (line t v)
lines_more t (w ∷ vs) v = ap (λ (bytes : List ℕ). line t w ++ bytes) (lines_more t vs v) ∙ sym (append_assoc (line t w) (lines t vs) (line t v))

-- one row more
pub line_more : (t : DataType) (values : List Datum) (from row : ℕ) (v : Datum) (before after start : List ℕ) → from ≤ row → slice_get values row ≡ Some v → after ≡ before ++ line t v → before ≡ start ++ lines t (slice_range values from row) → after ≡ start ++ lines t (slice_range values from (row + 1))
line_more t values from row v before after start low at pushed so_far =
    let lt = slice_get_within values row v at in
    let here : v ≡ get_or values row v = sym (get_or_from_slice_get values row v v at) in
    pushed ∙ ap (λ (b : List ℕ). b ++ line t v) so_far ∙ append_assoc start (lines t (slice_range values from row)) (line t v)
    ∙ ap (λ (b : List ℕ). start ++ b) (sym (lines_more t (slice_range values from row) v))
    ∙ ap (λ (vs : List Datum). start ++ lines t vs) (sym (range_more values from row v low lt here))

-- the value of a row that is valid or not
pub valid_at : (mask : List Bool) (values : List Datum) (row : ℕ) (bit : Bool) (v : Datum) → slice_get mask row ≡ Some bit → slice_get values row ≡ Some v → slice_get (where_valid mask values) row ≡ Some (if bit then v else null)
valid_at [] values row bit v e f = absurd cc
valid_at (valid ∷ mask) [] row bit v e f = absurd cc
valid_at (valid ∷ mask) (w ∷ values) zero bit v e f =
    let same : valid ≡ bit = cc in
    let found : w ≡ v = cc in
    ap (λ (b : Bool). Some (if b then w else null)) same ∙ ap (λ (u : Datum). Some (if bit then u else null)) found
valid_at (valid ∷ mask) (w ∷ values) (suc row) bit v e f = valid_at mask values row bit v e f

-- one slot more
pub slot_more : (t : DataType) (mask : List Bool) (slots : List Datum) (from row : ℕ) (bit : Bool) (v : Datum) (before after start : List ℕ) → from ≤ row → slice_get mask row ≡ Some bit → slice_get slots row ≡ Some v
    → after ≡ before ++ line t (if bit then v else null) → before ≡ start ++ lines t (slice_range (where_valid mask slots) from row) → after ≡ start ++ lines t (slice_range (where_valid mask slots) from (row + 1))
slot_more t mask slots from row bit v before after start low valid at pushed so_far =
    line_more t (where_valid mask slots) from row (if bit then v else null) before after start low (valid_at mask slots row bit v valid at) pushed so_far

pub read_at : {X : Type 0} (xs : List X) (row : ℕ) (x : X) → row < length xs → x ≡ get_or xs row x → slice_get xs row ≡ Some x
read_at {X} xs row x lt here = slice_get-get_or xs row x lt ∙ ap (λ (y : X). Some y) (sym here)

-- ---- the first row and the last

pub none_yet : (t : DataType) (values : List Datum) (from : ℕ) (out start : List ℕ) → out ≡ start → out ≡ start ++ lines t (slice_range values from from)
none_yet t values from out start same = same ∙ sym (append-nil start) ∙ ap (λ (vs : List Datum). start ++ lines t vs) (sym (range_none values from))

pub all_done : (t : DataType) (values : List Datum) (from row to : ℕ) (out start : List ℕ) → to ≤ row → row ≤ to → out ≡ start ++ lines t (slice_range values from row) → out ≡ start ++ lines t (slice_range values from to)
all_done t values from row to out start past inside so_far =
    let end : row ≡ to = omega arith in so_far ∙ ap (λ (k : ℕ). start ++ lines t (slice_range values from k)) end

-- a row of the column has a slot
pub length-valid : (mask : List Bool) (slots : List Datum) → length mask ≡ length slots → length (where_valid mask slots) ≡ length slots
length-valid [] [] same = refl
length-valid [] (v ∷ slots) same = absurd (omega arith)
length-valid (bit ∷ mask) [] same = absurd (omega arith)
length-valid (bit ∷ mask) (v ∷ slots) same = ap suc (length-valid mask slots (omega arith))

pub slots_inside : {X : Type 0} (f : X → Datum) (mask : List Bool) (xs : List X) (part values : List Datum) (row : ℕ) → length mask ≡ length xs → where_valid mask (map f xs) ≡ part → part ≡ values → row ≤ length values → row ≤ length xs
slots_inside {X} f mask xs part values row same seen here inside =
    omega (arith, length-valid mask (map f xs) (same ∙ sym (length-map xs f)), length-map xs f, ap length seen, ap length here)

-- Selected rows, and what is worked out over their values.
use Rattle.std.proofs.Common.{◌≡◌, ℕ, zero, suc, ◌+◌, ◌-◌, ◌<◌, ◌≤◌, pos, negsuc, Bool, true, false, List, [], ◌∷◌, ◌++◌, Option, Some, None, Result, Ok, Err, length, map, take, drop, replicate, refl, sym, ap, ◌∙◌, subst, arith, append-nil, append_assoc}
use Rattle.std.specs.Prelude.{IfOk, IsSomeAnd, slice_range}
use Rattle.std.specs.List.{slice_get, All, AllByRecursion}
use Rattle.std.proofs.lemmas.Int.{ints}
use Rattle.std.proofs.lemmas.List.{drop_all, length-drop, length-take}
use Rattle.std.proofs.lemmas.List.Elements.{All-head, All-tail}
use Rattle.std.proofs.lemmas.Option.{slice_get-get_or}
use Rattle.std.proofs.lemmas.Simd.{map-map}
use Rattle.vx_base.specs.Data.{DataType, bool_type, int_type, utf8_type, struct_type, list_type, Datum, null, truth, number, text, structure, Items}
use Rattle.vx_base.specs.Columns.{ColumnData}
use Rattle.vx_base.specs.ColumnCalls.{natural, value_at, IsCodeBelow, IsPlaceBelow, IsUnsigned}
use Rattle.vx_base.specs.Fits.{Fits}
use Rattle.vx_base.specs.Masks.{chosen}
use Rattle.vx_base.proofs.BuiltRows.{codes_placed}
use Rattle.vx_expr.specs.Bound.{Bound, IsBoundTo}
use Rattle.vx_expr.specs.Meaning.{meaning}
use Rattle.vx_expr.specs.Mentions.{uses_root}
use Rattle.vx_expr.specs.Rows.{worth, IsFirstFault, no_bound}
use Rattle.vx_expr.specs.Terms.{Term}
use Rattle.vx_expr.proofs.RewrittenMeaning.{worth_as_root}
use Rattle.vx_arrays.specs.Cells.{struct_at}
use Rattle.vx_picking.proofs.SelectedRows.{drop_at}
use Rattle.vx_rows.specs.Derivations.{look_up}
use Rattle.vx_picking.specs.RowFaults.{root_meaning}
use Rattle.vx_picking.specs.Rows.{rows_of}

-- ---- the rows of a mask

pub chosen_all : {X : Type 0} (mask : List Bool) (xs : List X) → All (λ bit. bit ≡ true) mask → length xs ≡ length mask → chosen mask xs ≡ xs
chosen_all [] [] all e = refl
chosen_all [] (x ∷ xs) all e = absurd (omega arith)
chosen_all (true ∷ mask) [] all e = refl
chosen_all {X = X} (true ∷ mask) (x ∷ xs) all e = ap (λ (rest : List X). x ∷ rest) (chosen_all mask xs (All-tail (λ bit. bit ≡ true) true mask all) (omega arith))
chosen_all (false ∷ mask) xs all e = absurd (let h : false ≡ true = All-head (λ bit. bit ≡ true) false mask all in cc)

-- what is picked of a range of which each row is chosen
pub picked_all : {E : Type 0} (result : Result ColumnData E) (values : List Datum) (start count : ℕ) (mask : List Bool) → All (λ bit. bit ≡ true) mask → count ≡ length mask → start + length mask ≤ length values → IfOk result (λ picked. picked.values ≡ slice_range values start (start + count)) → IfOk result (λ picked. picked.values ≡ chosen mask (slice_range values start (start + length mask)))
picked_all (Err error) values start count mask all same inside is = tt
picked_all (Ok picked) values start count mask all same inside is =
    let range : List Datum = slice_range values start (start + length mask) in
    let long : length range ≡ length mask = omega (arith, length-take (start + length mask - start) (drop start values), length-drop start values) in
    is ∙ ap (λ (k : ℕ). slice_range values start (start + k)) same ∙ sym (chosen_all mask range all long)

pub row_true : (start row : ℕ) (mask : List Bool) → slice_get mask row ≡ Some true → rows_of (start + row) (drop row mask) ≡ (start + row) ∷ rows_of (start + (row + 1)) (drop (row + 1) mask)
row_true start row mask at =
    let next : start + row + 1 ≡ start + (row + 1) = omega arith in
    ap (rows_of (start + row)) (drop_at mask row true at) ∙ ap (λ (k : ℕ). (start + row) ∷ rows_of k (drop (row + 1) mask)) next

pub row_false : (start row : ℕ) (mask : List Bool) → slice_get mask row ≡ Some false → rows_of (start + row) (drop row mask) ≡ rows_of (start + (row + 1)) (drop (row + 1) mask)
row_false start row mask at =
    let next : start + row + 1 ≡ start + (row + 1) = omega arith in
    ap (rows_of (start + row)) (drop_at mask row false at) ∙ ap (λ (k : ℕ). rows_of k (drop (row + 1) mask)) next

-- the first of the rows that are left
pub row_here : (start row left place : ℕ) (mask : List Bool) → slice_get mask row ≡ Some true → left ≡ 0 → slice_get (rows_of (start + row) (drop row mask)) left ≡ slice_get (rows_of start mask) place → (other : ℕ) → slice_get (rows_of start mask) place ≡ Some other → start + row ≡ other
row_here start row left place mask at none so_far other is =
    let first : Some (start + row) ≡ Some other = ap (λ (rows : List ℕ). slice_get rows 0) (sym (row_true start row mask at)) ∙ ap (slice_get (rows_of (start + row) (drop row mask))) (sym none) ∙ so_far ∙ is in
    cc

pub row_passed : (start row left : ℕ) (mask : List Bool) → slice_get mask row ≡ Some true → 0 < left → slice_get (rows_of (start + row) (drop row mask)) left ≡ slice_get (rows_of (start + (row + 1)) (drop (row + 1) mask)) (left - 1)
row_passed start row zero mask at some = absurd (omega arith)
row_passed start row (suc left) mask at some =
    let one : suc left - 1 ≡ left = omega arith in
    ap (λ (rows : List ℕ). slice_get rows (suc left)) (row_true start row mask at) ∙ ap (slice_get (rows_of (start + (row + 1)) (drop (row + 1) mask))) (sym one)

-- ---- their numbers, behind an offset

pub number_true : (start row offset : ℕ) (mask : List Bool) (numbers more all : List ℕ) → slice_get mask row ≡ Some true → numbers ++ map (λ (r : ℕ). r + offset) (rows_of (start + row) (drop row mask)) ≡ all → more ≡ numbers ++ (start + row + offset) ∷ [] → more ++ map (λ (r : ℕ). r + offset) (rows_of (start + (row + 1)) (drop (row + 1) mask)) ≡ all
number_true start row offset mask numbers more all at so_far pushed =
    let rest : List ℕ = map (λ (r : ℕ). r + offset) (rows_of (start + (row + 1)) (drop (row + 1) mask)) in
    ap (λ (ns : List ℕ). ns ++ rest) pushed ∙ append_assoc numbers ((start + row + offset) ∷ []) rest ∙ ap (λ (rows : List ℕ). numbers ++ map (λ (r : ℕ). r + offset) rows) (sym (row_true start row mask at)) ∙ so_far

pub number_false : (start row offset : ℕ) (mask : List Bool) (numbers all : List ℕ) → slice_get mask row ≡ Some false → numbers ++ map (λ (r : ℕ). r + offset) (rows_of (start + row) (drop row mask)) ≡ all → numbers ++ map (λ (r : ℕ). r + offset) (rows_of (start + (row + 1)) (drop (row + 1) mask)) ≡ all
number_false start row offset mask numbers all at so_far = ap (λ (rows : List ℕ). numbers ++ map (λ (r : ℕ). r + offset) rows) (sym (row_false start row mask at)) ∙ so_far

pub numbers_all : (start row offset : ℕ) (mask : List Bool) (numbers : List ℕ) → length mask ≤ row → numbers ++ map (λ (r : ℕ). r + offset) (rows_of (start + row) (drop row mask)) ≡ map (λ (r : ℕ). r + offset) (rows_of start mask) → map natural numbers ≡ map (λ (r : ℕ). natural (r + offset)) (rows_of start mask)
numbers_all start row offset mask numbers end so_far =
    let none : drop row mask ≡ [] = drop_all row mask end in
    let all : numbers ≡ map (λ (r : ℕ). r + offset) (rows_of start mask) = sym (append-nil numbers) ∙ ap (λ (bits : List Bool). numbers ++ map (λ (r : ℕ). r + offset) (rows_of (start + row) bits)) (sym none) ∙ so_far in
    ap (map natural) all ∙ map-map natural (λ (r : ℕ). r + offset) (rows_of start mask)

-- ---- codes

-- a struct is no number
pub struct_below : (count : ℕ) (rows : List Items) (row : ℕ) → IsCodeBelow count (struct_at rows row)
struct_below count [] row = tt
struct_below count (vs ∷ rows) zero = tt
struct_below count (vs ∷ rows) (suc row) = struct_below count rows row

pub codes_before : (count : ℕ) (codes : List Datum) (place : ℕ) (code : Datum) → slice_get codes place ≡ Some code → IsCodeBelow count code → AllByRecursion (IsCodeBelow count) (drop (place + 1) codes) → AllByRecursion (IsCodeBelow count) (drop place codes)
codes_before count codes place code at here rest = subst (AllByRecursion (IsCodeBelow count)) (sym (drop_at codes place code at)) (here, rest)

value_found : (t : DataType) (values : List Datum) (code : Datum) → IsUnsigned t → Fits t code → IsPlaceBelow (length values) code → look_up values code ≡ Some (value_at values code)
value_found (int_type kind n) values null unsigned fit below = refl
value_found (int_type kind n) values (number (pos place)) unsigned fit below =
    let inside : place < length values = omega (arith, ints, below.0, below.1) in
    slice_get-get_or values place null inside
value_found (int_type kind n) values (number (negsuc k)) unsigned fit below = absurd (omega (arith, ints, below.0, below.1))
value_found (int_type kind n) values (truth b) unsigned fit below = absurd fit
value_found (int_type kind n) values (text bytes) unsigned fit below = absurd fit
value_found (int_type kind n) values (structure vs) unsigned fit below = absurd fit
value_found (bool_type n) values code unsigned fit below = absurd unsigned
value_found (utf8_type n) values code unsigned fit below = absurd unsigned
value_found (struct_type ms n) values code unsigned fit below = absurd unsigned
value_found (list_type t n) values code unsigned fit below = absurd unsigned

placed_found : (t : DataType) (values codes : List Datum) → IsUnsigned t → AllByRecursion (Fits t) codes → AllByRecursion (IsPlaceBelow (length values)) codes → map (look_up values) codes ≡ map Some (map (value_at values) codes)
placed_found t values [] unsigned fit below = refl
placed_found t values (code ∷ codes) unsigned fit below = λ i. value_found t values code unsigned fit.0 below.0 i ∷ placed_found t values codes unsigned fit.1 below.1 i

pub values_found : (t : DataType) (values codes : List Datum) → IsUnsigned t → AllByRecursion (Fits t) codes → AllByRecursion (IsCodeBelow (length values)) codes → map (look_up values) codes ≡ map Some (map (value_at values) codes)
values_found t values codes unsigned fit below = placed_found t values codes unsigned fit (codes_placed t (length values) codes unsigned fit below)

-- ---- an expression over its root

zeros_all : (count : ℕ) → map natural (replicate count 0) ≡ replicate count (natural 0)
zeros_all zero = refl
zeros_all (suc count) = ap (λ (vs : List Datum). natural 0 ∷ vs) (zeros_all count)

pub zeros_made : (count old_count : ℕ) (old items : List ℕ) → old ≡ [] → old_count ≡ 0 → items ≡ take count old ++ replicate (count - old_count) 0 → map natural items ≡ replicate count (natural 0)
zeros_made count old_count old items none nothing made =
    let all : count - old_count ≡ count = omega arith in
    ap (map natural) (made ∙ ap (λ (xs : List ℕ). take count xs ++ replicate (count - old_count) 0) none ∙ ap (λ (k : ℕ). take count [] ++ replicate k 0) all) ∙ by_count count
  where
    by_count : (n : ℕ) → map natural (take n [] ++ replicate n 0) ≡ replicate n (natural 0)
    by_count zero = refl
    by_count (suc n) = zeros_all (suc n)

worth_by : (uses : Bool) (s t : DataType) (e : Term) (v : Datum) → uses_root e ≡ uses → (uses_root e ≡ true → s ≡ t) → meaning s no_bound e v 0 ≡ root_meaning t e v
worth_by true s t e v is same = ap (λ (r : DataType). meaning r no_bound e v 0) (same is)
worth_by false s t e v is same = sym (worth_as_root s e no_bound v 0 0 is) ∙ worth_as_root t e no_bound v 0 0 is

pub worth_rows : (a : Bound) (t : DataType) (values numbers : List Datum) → IsBoundTo a t → numbers ≡ replicate (length values) (natural 0) → worth a values numbers ≡ map (root_meaning t a.term) values
worth_rows a t values numbers bound zeros = ap (worth a values) zeros ∙ over_zeros values
  where
    over_zeros : (vs : List Datum) → worth a vs (replicate (length vs) (natural 0)) ≡ map (root_meaning t a.term) vs
    over_zeros [] = refl
    over_zeros (v ∷ vs) = λ i. worth_by (uses_root a.term) a.root t a.term v refl bound i ∷ over_zeros vs i

fault_at : (t : DataType) (e : Term) (values : List Datum) (place : ℕ) → slice_get (map (root_meaning t e) values) place ≡ Some None → IsSomeAnd (slice_get values place) (λ v. root_meaning t e v ≡ None)
fault_at t e [] place at = absurd cc
fault_at t e (v ∷ values) zero at = cc
fault_at t e (v ∷ values) (suc place) at = fault_at t e values place at

pub fault_told : (a : Bound) (t : DataType) (values numbers : List Datum) (place : ℕ) → IsBoundTo a t → numbers ≡ replicate (length values) (natural 0) → IsFirstFault (worth a values numbers) place → IsSomeAnd (slice_get values place) (λ v. root_meaning t a.term v ≡ None)
fault_told a t values numbers place bound zeros first = fault_at t a.term values place (ap (λ (rows : List (Option Datum)). slice_get rows place) (sym (worth_rows a t values numbers bound zeros)) ∙ first.here)

-- Structs of arrays, row by row.
use Rattle.std.proofs.Common.{◌≡◌, ℕ, zero, suc, ◌+◌, ◌-◌, ◌<◌, ◌≤◌, Bool, true, false, cond, List, [], ◌∷◌, ◌++◌, length, map, get_or, take, drop, replicate, Option, Some, None, refl, sym, ap, subst, ◌∙◌, arith}
use Rattle.std.specs.List.{slice_range}
use Rattle.std.proofs.lemmas.List.{length-map, length-replicate, length-drop, length-append, replicate-append-replicate, length-take-le, take-replicate, drop-replicate, take_more, take_all, map-append}
use Rattle.std.specs.Prelude.{slice_get}
use Rattle.vx_types.specs.declared.values.Value.{Value}
use Rattle.vx_types.specs.ValueViews.{datum, items_from, items_of}
use Rattle.vx_types.specs.ColumnCalls.{items_at}
use Rattle.vx_types.proofs.BuiltRows.{in_row}
use Rattle.vx_arrays.specs.Buffers.{nulls_for}
use Rattle.vx_masks.specs.Rows.{taken}
use Rattle.vx_arrays.specs.Cells.{struct_at}
use Rattle.std.proofs.lemmas.List.Sums.{sum_by-cons}
use Rattle.vx_types.specs.Columns.{ColumnData}
use Rattle.vx_types.specs.Data.{member, Datum, null, structure, Items, no_items, item}
use Rattle.vx_types.specs.Sizes.{type_size, members_size}
use Rattle.vx_masks.specs.Masks.{chosen, true_count}
use Rattle.vx_masks.proofs.Places.{false_first}
use Rattle.vx_arrays.specs.ArrayRows.{members_in, beside, rows_of, StructRows, struct_rows, HaveRows, sliced, filtered, picked_at, joined_each}

-- ---- how many rows
length-beside : (n : ℕ) (values : List Datum) (rows : List Items) → length values ≡ n → length rows ≡ n → length (beside values rows) ≡ n
length-beside n [] rows e f = e
length-beside n (v ∷ values) [] e f = absurd (omega arith)
length-beside zero (v ∷ values) (vs ∷ rows) e f = absurd (omega arith)
length-beside (suc n) (v ∷ values) (vs ∷ rows) e f = omega (arith, length-beside n values rows (omega arith) (omega arith))

length-rows_of : (rows : ℕ) (arrays : List ColumnData) → HaveRows rows arrays → length (rows_of rows arrays) ≡ rows
length-rows_of rows [] h = length-replicate rows no_items
length-rows_of rows (array ∷ arrays) h = length-beside rows array.values (rows_of rows arrays) h.0 (length-rows_of rows arrays h.1)

pub struct_len : (rows : ℕ) (arrays : List ColumnData) → HaveRows rows arrays → length (struct_rows rows arrays).rows ≡ rows
struct_len rows arrays h = length-rows_of rows arrays h

-- ---- an array among arrays
pub size_at : (rows : ℕ) (arrays : List ColumnData) (i : ℕ) (array : ColumnData) → i < length arrays → array ≡ get_or arrays i array → type_size array.dtype ≤ members_size (struct_rows rows arrays).members
size_at rows [] i array lt e = absurd (omega arith)
size_at rows (one ∷ arrays) zero array lt e = omega (arith, ap (λ (p : ColumnData). type_size p.dtype) e)
size_at rows (one ∷ arrays) (suc i) array lt e = omega (arith, size_at rows arrays i array (omega arith) e)

pub rows_at : (rows : ℕ) (arrays : List ColumnData) (i : ℕ) (array : ColumnData) → i < length arrays → array ≡ get_or arrays i array → HaveRows rows arrays → length array.values ≡ rows
rows_at rows [] i array lt e h = absurd (omega arith)
rows_at rows (one ∷ arrays) zero array lt e h = ap (λ (p : ColumnData). length p.values) e ∙ h.0
rows_at rows (one ∷ arrays) (suc i) array lt e h = rows_at rows arrays i array (omega arith) e h.1

-- an array of a struct's arrays is smaller, and has the struct's rows
pub record IsArrayOf (structs : StructRows) (array : ColumnData) : Type 0 where
  pub smaller : type_size array.dtype ≤ members_size structs.members
  pub rows : length array.values ≡ length structs.rows

pub array_of : (rows : ℕ) (arrays items : List ColumnData) (i : ℕ) (array : ColumnData) (structs : StructRows) → items ≡ arrays → struct_rows rows arrays ≡ structs → HaveRows rows arrays → i < length items → array ≡ get_or items i array → IsArrayOf structs array
array_of rows arrays items i array structs e view h lt is = subst (λ (s : StructRows). IsArrayOf s array) view (record {
  smaller = size_at rows arrays i array (omega (arith, ap length e)) (is ∙ ap (λ (ps : List ColumnData). get_or ps i array) e);
  rows = rows_at rows arrays i array (omega (arith, ap length e)) (is ∙ ap (λ (ps : List ColumnData). get_or ps i array) e) h ∙ sym (struct_len rows arrays h);
})

-- what was made of each of them
pub all_mapped : (f : ColumnData → ColumnData) (arrays items made : List ColumnData) (i : ℕ) → items ≡ arrays → length items ≤ i → made ≡ map f (take i items) → made ≡ map f arrays
all_mapped f arrays items made i e past h = h ∙ ap (map f) (take_all i items past ∙ e)

-- ---- a range
no_rows : (values : List Datum) → beside values [] ≡ []
no_rows [] = refl
no_rows (v ∷ values) = refl

take-beside : (n : ℕ) (values : List Datum) (rows : List Items) → take n (beside values rows) ≡ beside (take n values) (take n rows)
take-beside zero values rows = refl
take-beside (suc n) [] rows = refl
take-beside (suc n) (v ∷ values) [] = refl
take-beside (suc n) (v ∷ values) (vs ∷ rows) = ap (λ (rest : List Items). item v vs ∷ rest) (take-beside n values rows)

drop-beside : (n : ℕ) (values : List Datum) (rows : List Items) → drop n (beside values rows) ≡ beside (drop n values) (drop n rows)
drop-beside zero values rows = refl
drop-beside (suc n) [] rows = refl
drop-beside (suc n) (v ∷ values) [] = sym (no_rows (drop n values))
drop-beside (suc n) (v ∷ values) (vs ∷ rows) = drop-beside n values rows

rows_in_range : (from to rows : ℕ) (arrays : List ColumnData) → from ≤ to → to ≤ rows → rows_of (to - from) (map (sliced from to) arrays) ≡ slice_range (rows_of rows arrays) from to
rows_in_range from to rows [] le inside = sym (ap (take (to - from)) (drop-replicate from rows no_items) ∙ take-replicate (to - from) (rows - from) no_items (omega arith))
rows_in_range from to rows (array ∷ arrays) le inside =
    ap (beside (slice_range array.values from to)) (rows_in_range from to rows arrays le inside)
    ∙ sym (ap (take (to - from)) (drop-beside from array.values (rows_of rows arrays)) ∙ take-beside (to - from) (drop from array.values) (drop from (rows_of rows arrays)))

same_members : (f : ColumnData → ColumnData) (arrays : List ColumnData) → ((array : ColumnData) → (f array).dtype ≡ array.dtype) → members_in (map f arrays) ≡ members_in arrays
same_members f [] h = refl
same_members f (array ∷ arrays) h = λ i. member [] (h array i) (same_members f arrays h i)

pub struct_members : (f : ColumnData → ColumnData) (arrays made : List ColumnData) → made ≡ map f arrays → ((array : ColumnData) → (f array).dtype ≡ array.dtype) → members_in made ≡ members_in arrays
struct_members f arrays made e h = ap members_in e ∙ same_members f arrays h

pub struct_sliced : (from to rows : ℕ) (arrays made : List ColumnData) → from ≤ to → to ≤ rows → made ≡ map (sliced from to) arrays → rows_of (to - from) made ≡ slice_range (rows_of rows arrays) from to
struct_sliced from to rows arrays made le inside e = ap (rows_of (to - from)) e ∙ rows_in_range from to rows arrays le inside

pub length-range : {X : Type 0} (xs : List X) (from to : ℕ) → from ≤ to → to ≤ length xs → length (slice_range xs from to) ≡ to - from
length-range xs from to le inside = length-take-le (to - from) (drop from xs) (omega (arith, length-drop from xs))

sliced_rows : (from to rows : ℕ) (arrays : List ColumnData) → from ≤ to → to ≤ rows → HaveRows rows arrays → HaveRows (to - from) (map (sliced from to) arrays)
sliced_rows from to rows [] le inside h = tt
sliced_rows from to rows (array ∷ arrays) le inside h = (length-range array.values from to le (omega (arith, h.0)), sliced_rows from to rows arrays le inside h.1)

pub sliced_have : (from to rows : ℕ) (arrays made : List ColumnData) → from ≤ to → to ≤ rows → made ≡ map (sliced from to) arrays → HaveRows rows arrays → HaveRows (to - from) made
sliced_have from to rows arrays made le inside e h = subst (λ (ps : List ColumnData). HaveRows (to - from) ps) (sym e) (sliced_rows from to rows arrays le inside h)

-- ---- chosen rows
one_more : (bits : List Bool) → true_count (true ∷ bits) ≡ 1 + true_count bits
one_more bits = sum_by-cons (λ (b : Bool). cond b 1 0) true bits

chosen-beside : (bits : List Bool) (values : List Datum) (rows : List Items) → chosen bits (beside values rows) ≡ beside (chosen bits values) (chosen bits rows)
chosen-beside [] values rows = refl
chosen-beside (true ∷ bits) [] rows = refl
chosen-beside (false ∷ bits) [] rows = refl
chosen-beside (true ∷ bits) (v ∷ values) [] = refl
chosen-beside (false ∷ bits) (v ∷ values) [] = sym (no_rows (chosen bits values))
chosen-beside (true ∷ bits) (v ∷ values) (vs ∷ rows) = ap (λ (rest : List Items). item v vs ∷ rest) (chosen-beside bits values rows)
chosen-beside (false ∷ bits) (v ∷ values) (vs ∷ rows) = chosen-beside bits values rows

chosen-replicate : (bits : List Bool) (rows : ℕ) → length bits ≡ rows → chosen bits (replicate rows no_items) ≡ replicate (true_count bits) no_items
chosen-replicate [] rows e = refl
chosen-replicate (bit ∷ bits) zero e = absurd (omega arith)
chosen-replicate (true ∷ bits) (suc rows) e =
    let one : suc (true_count bits) ≡ true_count (true ∷ bits) = omega (arith, one_more bits) in
    ap (λ (rest : List Items). no_items ∷ rest) (chosen-replicate bits rows (omega arith)) ∙ ap (λ (n : ℕ). replicate n no_items) one
chosen-replicate (false ∷ bits) (suc rows) e =
    chosen-replicate bits rows (omega arith) ∙ ap (λ (n : ℕ). replicate n no_items) (sym (false_first bits))

length-chosen_rows : (bits : List Bool) (values : List Datum) → length bits ≡ length values → length (chosen bits values) ≡ true_count bits
length-chosen_rows [] values e = refl
length-chosen_rows (bit ∷ bits) [] e = absurd (omega arith)
length-chosen_rows (true ∷ bits) (v ∷ values) e = omega (arith, one_more bits, length-chosen_rows bits values (omega arith))
length-chosen_rows (false ∷ bits) (v ∷ values) e = omega (arith, false_first bits, length-chosen_rows bits values (omega arith))

rows_chosen : (bits : List Bool) (rows : ℕ) (arrays : List ColumnData) → length bits ≡ rows → rows_of (true_count bits) (map (filtered bits) arrays) ≡ chosen bits (rows_of rows arrays)
rows_chosen bits rows [] e = sym (chosen-replicate bits rows e)
rows_chosen bits rows (array ∷ arrays) e = ap (beside (chosen bits array.values)) (rows_chosen bits rows arrays e) ∙ sym (chosen-beside bits array.values (rows_of rows arrays))

filtered_rows : (bits : List Bool) (rows : ℕ) (arrays : List ColumnData) → length bits ≡ rows → HaveRows rows arrays → HaveRows (true_count bits) (map (filtered bits) arrays)
filtered_rows bits rows [] e h = tt
filtered_rows bits rows (array ∷ arrays) e h = (length-chosen_rows bits array.values (e ∙ sym h.0), filtered_rows bits rows arrays e h.1)

pub filtered_have : (bits : List Bool) (count rows : ℕ) (arrays made : List ColumnData) → count ≡ true_count bits → length bits ≡ rows → made ≡ map (filtered bits) arrays → HaveRows rows arrays → HaveRows count made
filtered_have bits count rows arrays made c len e h = subst (λ (n : ℕ). HaveRows n made) (sym c) (subst (λ (ps : List ColumnData). HaveRows (true_count bits) ps) (sym e) (filtered_rows bits rows arrays len h))

pub struct_filtered : (bits : List Bool) (count rows : ℕ) (arrays made : List ColumnData) → count ≡ true_count bits → length bits ≡ rows → made ≡ map (filtered bits) arrays → rows_of count made ≡ chosen bits (rows_of rows arrays)
struct_filtered bits count rows arrays made c len e = (λ i. rows_of (c i) (e i)) ∙ rows_chosen bits rows arrays len

-- ---- taken rows
get_or-beside : (values : List Datum) (rows : List Items) (place : ℕ) (v : Datum) (vs : Items) → length values ≡ length rows → item (get_or values place v) (get_or rows place vs) ≡ get_or (beside values rows) place (item v vs)
get_or-beside [] [] place v vs e = refl
get_or-beside [] (ws ∷ rows) place v vs e = absurd (omega arith)
get_or-beside (w ∷ values) [] place v vs e = absurd (omega arith)
get_or-beside (w ∷ values) (ws ∷ rows) zero v vs e = refl
get_or-beside (w ∷ values) (ws ∷ rows) (suc place) v vs e = get_or-beside values rows place v vs (omega arith)

taken-beside : (values : List Datum) (rows : List Items) (places : List ℕ) (v : Datum) (vs : Items) → length values ≡ length rows → beside (taken v values places) (taken vs rows places) ≡ taken (item v vs) (beside values rows) places
taken-beside values rows [] v vs e = refl
taken-beside values rows (place ∷ places) v vs e = λ i. get_or-beside values rows place v vs e i ∷ taken-beside values rows places v vs e i

get_or-alike : (rows place : ℕ) → get_or (replicate rows no_items) place no_items ≡ no_items
get_or-alike zero place = refl
get_or-alike (suc rows) zero = refl
get_or-alike (suc rows) (suc place) = get_or-alike rows place

taken-alike : (rows : ℕ) (places : List ℕ) → replicate (length places) no_items ≡ taken no_items (replicate rows no_items) places
taken-alike rows [] = refl
taken-alike rows (place ∷ places) = λ i. sym (get_or-alike rows place) i ∷ taken-alike rows places i

rows_taken : (places : List ℕ) (rows : ℕ) (arrays : List ColumnData) → HaveRows rows arrays → rows_of (length places) (map (picked_at places) arrays) ≡ taken (nulls_for (members_in arrays)) (rows_of rows arrays) places
rows_taken places rows [] h = taken-alike rows places
rows_taken places rows (array ∷ arrays) h =
    ap (beside (taken null array.values places)) (rows_taken places rows arrays h.1)
    ∙ taken-beside array.values (rows_of rows arrays) places null (nulls_for (members_in arrays)) (h.0 ∙ sym (length-rows_of rows arrays h.1))

taken_rows : (places : List ℕ) (rows : ℕ) (arrays : List ColumnData) → HaveRows (length places) (map (picked_at places) arrays)
taken_rows places rows [] = tt
taken_rows places rows (array ∷ arrays) = (length-map places (λ place. get_or array.values place null), taken_rows places rows arrays)

pub taken_have : (places : List ℕ) (rows : ℕ) (arrays made : List ColumnData) → made ≡ map (picked_at places) arrays → HaveRows (length places) made
taken_have places rows arrays made e = subst (λ (ps : List ColumnData). HaveRows (length places) ps) (sym e) (taken_rows places rows arrays)

pub struct_taken : (places : List ℕ) (rows : ℕ) (arrays made : List ColumnData) → made ≡ map (picked_at places) arrays → HaveRows rows arrays → rows_of (length places) made ≡ taken (nulls_for (members_in arrays)) (rows_of rows arrays) places
struct_taken places rows arrays made e h = ap (rows_of (length places)) e ∙ rows_taken places rows arrays h

-- ---- a row
get-beside : (values : List Datum) (rows : List Items) (row : ℕ) (vs : Items) → row < length values → slice_get rows row ≡ Some vs → slice_get (beside values rows) row ≡ Some (item (get_or values row null) vs)
get-beside [] rows row vs lt e = absurd (omega arith)
get-beside (v ∷ values) [] row vs lt e = absurd cc
get-beside (v ∷ values) (ws ∷ rows) zero vs lt e = ap (map_some v) e
  where
    map_some : Datum → Option Items → Option Items
    map_some v (Some ws) = Some (item v ws)
    map_some v None = None
get-beside (v ∷ values) (ws ∷ rows) (suc row) vs lt e = get-beside values rows row vs (omega arith) e

get-alike : (rows row : ℕ) → row < rows → slice_get (replicate rows no_items) row ≡ Some no_items
get-alike zero row lt = absurd (omega arith)
get-alike (suc rows) zero lt = refl
get-alike (suc rows) (suc row) lt = get-alike rows row (omega arith)

pub row_there : (rows row : ℕ) (arrays : List ColumnData) → row < rows → HaveRows rows arrays → slice_get (rows_of rows arrays) row ≡ Some (items_at arrays row)
row_there rows row [] lt h = get-alike rows row lt
row_there rows row (array ∷ arrays) lt h = get-beside array.values (rows_of rows arrays) row (items_at arrays row) (omega (arith, h.0)) (row_there rows row arrays lt h.1)

pub struct_row : (rows row : ℕ) (arrays : List ColumnData) (values : List Value) → row < rows → HaveRows rows arrays → map datum values ≡ map (in_row row) arrays → slice_get (rows_of rows arrays) row ≡ Some (items_of values)
struct_row rows row arrays values lt h e = row_there rows row arrays lt h ∙ ap (λ (vs : List Datum). Some (items_from vs)) (sym e)

pub get_map : {X : Type 0} (f : X → Datum) (xs : List X) (row : ℕ) (x : X) → slice_get xs row ≡ Some x → slice_get (map f xs) row ≡ Some (f x)
get_map f [] row x e = absurd cc
get_map f (y ∷ xs) zero x e = cc
get_map f (y ∷ xs) (suc row) x e = get_map f xs row x e

pub value_at_row : (array : ColumnData) (row : ℕ) (v : Datum) → slice_get array.values row ≡ Some v → v ≡ in_row row array
value_at_row array row v e = at array.values row v e
  where
    at : (vs : List Datum) (row : ℕ) (v : Datum) → slice_get vs row ≡ Some v → v ≡ get_or vs row null
    at [] row v e = absurd cc
    at (w ∷ vs) zero v e = cc
    at (w ∷ vs) (suc row) v e = at vs row v e

pub row_more : (row : ℕ) (arrays : List ColumnData) (values more : List Value) (i : ℕ) (array : ColumnData) (value : Value) → i < length arrays → array ≡ get_or arrays i array → slice_get array.values row ≡ Some (datum value) → more ≡ values ++ value ∷ []
    → map datum values ≡ map (in_row row) (take i arrays) → map datum more ≡ map (in_row row) (take (i + 1) arrays)
row_more row arrays values more i array value lt e at pushed so_far =
    let step = take_more arrays i array lt in
    let here : datum value ≡ in_row row array = value_at_row array row (datum value) at in
    rw (pushed, step, ← e, map-append datum values (value ∷ []), map-append (in_row row) (take i arrays) (array ∷ []), so_far, here) refl

pub all_in_row : (row : ℕ) (arrays items : List ColumnData) (values : List Value) (i : ℕ) → items ≡ arrays → length items ≤ i → map datum values ≡ map (in_row row) (take i items) → map datum values ≡ map (in_row row) arrays
all_in_row row arrays items values i e past h = h ∙ ap (map (in_row row)) (take_all i items past ∙ e)

-- ---- the struct of a row
struct_at_row : (rows : List Items) (row : ℕ) → row < length rows → slice_get (map structure rows) row ≡ Some (struct_at rows row)
struct_at_row [] row lt = absurd (omega arith)
struct_at_row (vs ∷ rows) zero lt = refl
struct_at_row (vs ∷ rows) (suc row) lt = struct_at_row rows row (omega arith)

pub struct_there : (rows : List Items) (row : ℕ) → row < length (map structure rows) → slice_get (map structure rows) row ≡ Some (struct_at rows row)
struct_there rows row lt = struct_at_row rows row (omega (arith, lt, length-map rows structure))

pub struct_here : (rows : List Items) (row : ℕ) (vs : Items) → slice_get rows row ≡ Some vs → structure vs ≡ struct_at rows row
struct_here [] row vs e = absurd cc
struct_here (ws ∷ rows) zero vs e = cc
struct_here (ws ∷ rows) (suc row) vs e = struct_here rows row vs e

pub struct_past : (rows : List Items) (row : ℕ) → length rows ≤ row → null ≡ struct_at rows row
struct_past [] row le = refl
struct_past (vs ∷ rows) zero le = absurd (omega arith)
struct_past (vs ∷ rows) (suc row) le = struct_past rows row (omega arith)

-- ---- rows behind rows
append-beside : (values more : List Datum) (rows others : List Items) → length values ≡ length rows → beside (values ++ more) (rows ++ others) ≡ beside values rows ++ beside more others
append-beside [] more [] others e = refl
append-beside [] more (vs ∷ rows) others e = absurd (omega arith)
append-beside (v ∷ values) more [] others e = absurd (omega arith)
append-beside (v ∷ values) more (vs ∷ rows) others e = ap (λ (rest : List Items). item v vs ∷ rest) (append-beside values more rows others (omega arith))

pub same_head : (a b : ColumnData) (ones others : List ColumnData) → members_in (b ∷ others) ≡ members_in (a ∷ ones) → b.dtype ≡ a.dtype
same_head a b ones others e = cc

pub same_rest : (a b : ColumnData) (ones others : List ColumnData) → members_in (b ∷ others) ≡ members_in (a ∷ ones) → members_in others ≡ members_in ones
same_rest a b ones others e = cc

rows_joined : (m n : ℕ) (ones others : List ColumnData) → members_in others ≡ members_in ones → HaveRows m ones → HaveRows n others → rows_of (m + n) (joined_each ones others) ≡ rows_of m ones ++ rows_of n others
rows_joined m n [] [] e g h = sym (replicate-append-replicate m n no_items)
rows_joined m n [] (b ∷ others) e g h = absurd cc
rows_joined m n (a ∷ ones) [] e g h = absurd cc
rows_joined m n (a ∷ ones) (b ∷ others) e g h =
    ap (beside (a.values ++ b.values)) (rows_joined m n ones others (same_rest a b ones others e) g.1 h.1)
    ∙ append-beside a.values b.values (rows_of m ones) (rows_of n others) (g.0 ∙ sym (length-rows_of m ones g.1))

each_have : (m n : ℕ) (ones others : List ColumnData) → HaveRows m ones → HaveRows n others → HaveRows (m + n) (joined_each ones others)
each_have m n [] others g h = tt
each_have m n (a ∷ ones) [] g h = tt
each_have m n (a ∷ ones) (b ∷ others) g h = (omega (arith, length-append a.values b.values, g.0, h.0), each_have m n ones others g.1 h.1)

pub joined_members : (ones others : List ColumnData) → members_in others ≡ members_in ones → members_in (joined_each ones others) ≡ members_in ones
joined_members [] others e = refl
joined_members (a ∷ ones) [] e = absurd cc
joined_members (a ∷ ones) (b ∷ others) e = ap (member [] a.dtype) (joined_members ones others (same_rest a b ones others e))

pub joined_have : (m n rows : ℕ) (ones others made : List ColumnData) → rows ≡ m + n → made ≡ joined_each ones others → HaveRows m ones → HaveRows n others → HaveRows rows made
joined_have m n rows ones others made r e g h = subst (λ (k : ℕ). HaveRows k made) (sym r) (subst (λ (ps : List ColumnData). HaveRows (m + n) ps) (sym e) (each_have m n ones others g h))

pub struct_joined : (m n rows : ℕ) (ones others made : List ColumnData) → rows ≡ m + n → made ≡ joined_each ones others → members_in others ≡ members_in ones → HaveRows m ones → HaveRows n others → rows_of rows made ≡ rows_of m ones ++ rows_of n others
struct_joined m n rows ones others made r e same g h = (λ i. rows_of (r i) (e i)) ∙ rows_joined m n ones others same g h

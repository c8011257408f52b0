-- The values of all rows of a tree: of chunks, of fields, of a dictionary, and of zoned data.
use Rattle.std.proofs.Common.{◌≡◌, ℕ, zero, suc, ◌+◌, ◌<◌, pos, negsuc, List, [], ◌∷◌, ◌++◌, Option, Some, length, map, get_or, refl, sym, ap, ◌∙◌, subst, arith}
use Rattle.std.specs.Prelude.{option_and_then, option_map}
use Rattle.std.specs.List.{slice_get, range_with_len, AllByRecursion}
use Rattle.std.proofs.lemmas.List.{map-append}
use Rattle.vx_base.specs.declared.codings.Coding.{Coding}
use Rattle.vx_base.specs.Data.{Members, no_members, member, Datum, null, truth, number, text, structure}
use Rattle.vx_base.specs.ColumnCalls.{value_at}
use Rattle.vx_expr.specs.Types.{on_both}
use Rattle.vx_expr.specs.Packs.{struct_row}
use Rattle.vx_layout.specs.Trees.{Tree, leaf, chunks, fields, dict, zoned, Forest, no_trees, tree, always, valid_by, head_of}
use Rattle.vx_layout.specs.Kept.{KeptFields, all}
use Rattle.vx_rows.specs.Derivations.{Derivation, each_row, Leaves, look_up, derived, derived_each}
use Rattle.vx_rows.specs.Reads.{IsPlaceAmong}
use Rattle.vx_rows.specs.Heads.{Head}
use Rattle.vx_rows.specs.Zones.{Zones}
use Rattle.vx_layout.specs.Rows.{struct_members, derivation, field_derivations, value, value_in, AreValuesOf, AreTreeValues, rows_in, AreForestValues}
use Rattle.vx_layout.specs.Columns.{AreColumns, row_of, valid_row_of}
use Rattle.vx_layout.specs.Sound.{AreFields}
use Rattle.vx_layout.proofs.TreeRows.{row_first, row_later}

-- ---- lists of values

values_same_in : (values more : List Datum) → map Some values ≡ map Some more → values ≡ more
values_same_in [] [] e = refl
values_same_in [] (v ∷ more) e = absurd cc
values_same_in (v ∷ values) [] e = absurd cc
values_same_in (v ∷ values) (w ∷ more) e =
    let p : v ≡ w = cc in
    let rest : map Some values ≡ map Some more = cc in
    let q : values ≡ more = values_same_in values more rest in
    cc

-- the rows have no more than one list of values
pub values_same : (f : ℕ → Option Datum) (rows : List ℕ) (ones others : List Datum) → AreValuesOf f rows ones → AreValuesOf f rows others → ones ≡ others
values_same f rows ones others p q = values_same_in ones others (sym p ∙ q)

count_values : (f : ℕ → Option Datum) (from count : ℕ) (values : List Datum) → AreValuesOf f (range_with_len from count) values → length values ≡ count
count_values f from zero [] are = refl
count_values f from zero (v ∷ values) are = absurd cc
count_values f from (suc count) [] are = absurd cc
count_values f from (suc count) (v ∷ values) are =
    let rest : map f (range_with_len (from + 1) count) ≡ map Some values = cc in
    omega (arith, count_values f (from + 1) count values rest)

row_value : (f : ℕ → Option Datum) (from count row at : ℕ) (values : List Datum) → AreValuesOf f (range_with_len from count) values → row < count → at ≡ from + row → f at ≡ slice_get values row
row_value f from zero row at values are lt e = absurd (omega arith)
row_value f from (suc count) row at [] are lt e = absurd cc
row_value f from (suc count) zero at (v ∷ values) are lt e =
    let p : at ≡ from = omega arith in
    let q : f from ≡ Some v = cc in
    cc
row_value f from (suc count) (suc row) at (v ∷ values) are lt e =
    let rest : map f (range_with_len (from + 1) count) ≡ map Some values = cc in
    row_value f (from + 1) count row at values rest (omega arith) (omega arith)

-- as many values as rows
pub values_count : (leaves : Leaves) (t : Tree) (kept : KeptFields) (values : List Datum) → AreTreeValues leaves t kept values → length values ≡ (head_of t).rows
values_count leaves t kept values are = count_values (value leaves t kept) 0 (head_of t).rows values are

-- each is the value of its row
pub values_at : (leaves : Leaves) (t : Tree) (kept : KeptFields) (values : List Datum) (row : ℕ) → AreTreeValues leaves t kept values → row < (head_of t).rows → value leaves t kept row ≡ slice_get values row
values_at leaves t kept values row are lt = row_value (value leaves t kept) 0 (head_of t).rows row row values are lt (omega arith)

-- ---- chunks

pub range_split : (a b m n k : ℕ) → k ≡ m + n → b ≡ a + m → range_with_len a k ≡ range_with_len a m ++ range_with_len b n
range_split a b zero n k e f = let p : k ≡ n = omega arith in let q : b ≡ a = omega arith in cc
range_split a b (suc m) n zero e f = absurd (omega arith)
range_split a b (suc m) n (suc k) e f = ap (λ (ns : List ℕ). a ∷ ns) (range_split (a + 1) b m n k (omega arith) (omega arith))

-- functions that are equal from two rows on
map_same : (f g : ℕ → Option Datum) (a b n : ℕ) → ((i x y : ℕ) → i < n → x ≡ a + i → y ≡ b + i → f x ≡ g y) → map f (range_with_len a n) ≡ map g (range_with_len b n)
map_same f g a b zero same = refl
map_same f g a b (suc n) same =
    let p : f a ≡ g b = same 0 a b (omega arith) (omega arith) (omega arith) in
    let q : map f (range_with_len (a + 1) n) ≡ map g (range_with_len (b + 1) n) = map_same f g (a + 1) (b + 1) n (λ i x y lt e k. same (suc i) x y (omega arith) (omega arith) (omega arith)) in
    cc

-- the values of the first tree, then those of the others
pub forest_values : (leaves : Leaves) (first : Tree) (rest : Forest) (kept : KeptFields) (values more : List Datum) → AreTreeValues leaves first kept values → AreForestValues leaves rest kept more → AreForestValues leaves (tree first rest) kept (values ++ more)
forest_values leaves first rest kept values more here later =
    let rows : ℕ = (head_of first).rows in
    let f : ℕ → Option Datum = value_in leaves (tree first rest) kept in
    let split : range_with_len 0 (rows + rows_in rest) ≡ range_with_len 0 rows ++ range_with_len rows (rows_in rest) = range_split 0 rows rows (rows_in rest) (rows + rows_in rest) refl (omega arith) in
    let front : map f (range_with_len 0 rows) ≡ map (value leaves first kept) (range_with_len 0 rows) = map_same f (value leaves first kept) 0 0 rows (λ i x y lt e k. ap (derived leaves) (row_first first rest kept x (omega arith)) ∙ ap (value leaves first kept) (let p : x ≡ y = omega arith in p)) in
    let back : map f (range_with_len rows (rows_in rest)) ≡ map (value_in leaves rest kept) (range_with_len 0 (rows_in rest)) = map_same f (value_in leaves rest kept) rows 0 (rows_in rest) (λ i x y lt e k. ap (derived leaves) (row_later first rest kept x y (omega arith))) in
    let mapped : map f (range_with_len 0 rows ++ range_with_len rows (rows_in rest)) ≡ map f (range_with_len 0 rows) ++ map f (range_with_len rows (rows_in rest)) = map-append f (range_with_len 0 rows) (range_with_len rows (rows_in rest)) in
    let joined : map Some (values ++ more) ≡ map Some values ++ map Some more = map-append Some values more in
    ap (map f) split ∙ cc

-- a chunked node has the values of its chunks
pub chunked_values : (leaves : Leaves) (head : Head) (forest : Forest) (kept : KeptFields) (values : List Datum) → rows_in forest ≡ head.rows → AreForestValues leaves forest kept values → AreTreeValues leaves (chunks head forest) kept values
chunked_values leaves head forest kept values adds are = subst (λ (rows : ℕ). AreValuesOf (value_in leaves forest kept) (range_with_len 0 rows) values) adds are

-- zoned data has the values of the data
pub zoned_values : (leaves : Leaves) (head : Head) (zones : Zones) (content table : Tree) (kept : KeptFields) (values : List Datum) → (head_of content).rows ≡ head.rows → AreTreeValues leaves content kept values → AreTreeValues leaves (zoned head zones content table) kept values
zoned_values leaves head zones content table kept values same are = subst (λ (rows : ℕ). AreValuesOf (value leaves content kept) (range_with_len 0 rows) values) same are

-- ---- leaves

list_rows : (values all_values : List Datum) (from count : ℕ) → ((row at : ℕ) → row < count → at ≡ from + row → slice_get all_values at ≡ slice_get values row) → length values ≡ count → map (λ row. slice_get all_values row) (range_with_len from count) ≡ map Some values
list_rows [] all_values from zero same e = refl
list_rows [] all_values from (suc count) same e = absurd (omega arith)
list_rows (v ∷ values) all_values from zero same e = absurd (omega arith)
list_rows (v ∷ values) all_values from (suc count) same e =
    let p : slice_get all_values from ≡ Some v = same 0 from (omega arith) (omega arith) in
    let q : map (λ row. slice_get all_values row) (range_with_len (from + 1) count) ≡ map Some values = list_rows values all_values (from + 1) count (λ row at lt f. same (suc row) at (omega arith) (omega arith)) (omega arith) in
    cc

pub leaf_values : (leaves : Leaves) (head : Head) (segment : ℕ) (coding : Coding) (kept : KeptFields) (values : List Datum) → leaves head.dtype coding head.rows segment ≡ Some values → length values ≡ head.rows → AreTreeValues leaves (leaf head segment coding) kept values
leaf_values leaves head segment coding kept values has size =
    let p : map (λ row. slice_get values row) (range_with_len 0 head.rows) ≡ map Some values = list_rows values values 0 head.rows (λ row at lt f. ap (slice_get values) (let e : at ≡ row = omega arith in e)) size in
    subst (λ (o : Option (List Datum)). map (λ row. option_and_then (λ found. slice_get found row) o) (range_with_len 0 head.rows) ≡ map Some values) (sym has) p

-- ---- dictionaries

gathered : (leaves : Leaves) (f : ℕ → Derivation) (from count : ℕ) (values : List Datum) → map (λ row. derived leaves (f row)) (range_with_len from count) ≡ map Some values → derived_each leaves (each_row f from count) ≡ Some values
gathered leaves f from zero [] are = refl
gathered leaves f from zero (v ∷ values) are = absurd cc
gathered leaves f from (suc count) [] are = absurd cc
gathered leaves f from (suc count) (v ∷ values) are =
    let p : derived leaves (f from) ≡ Some v = cc in
    let rest : map (λ row. derived leaves (f row)) (range_with_len (from + 1) count) ≡ map Some values = cc in
    let q : derived_each leaves (each_row f (from + 1) count) ≡ Some values = gathered leaves f (from + 1) count values rest in
    rw (p, q) refl

get_there : (values : List Datum) (row : ℕ) (other : Datum) → row < length values → slice_get values row ≡ Some (get_or values row other)
get_there [] row other lt = absurd (omega arith)
get_there (v ∷ values) zero other lt = refl
get_there (v ∷ values) (suc row) other lt = get_there values row other (omega arith)

look_up_is : (values : List Datum) (code : Datum) → IsPlaceAmong (length values) code → look_up values code ≡ Some (value_at values code)
look_up_is values null among = refl
look_up_is values (truth b) among = absurd among
look_up_is values (number (pos place)) among = get_there values place null among
look_up_is values (number (negsuc n)) among = absurd among
look_up_is values (text bytes) among = absurd among
look_up_is values (structure vs) among = absurd among

looked_up_rows : (values : List Datum) (code_at : ℕ → Option Datum) (rows : List ℕ) (codes : List Datum) → map code_at rows ≡ map Some codes → AllByRecursion (IsPlaceAmong (length values)) codes → map (λ row. on_both look_up (Some values) (code_at row)) rows ≡ map Some (map (value_at values) codes)
looked_up_rows values code_at [] [] are among = refl
looked_up_rows values code_at [] (code ∷ codes) are among = absurd cc
looked_up_rows values code_at (row ∷ rows) [] are among = absurd cc
looked_up_rows values code_at (row ∷ rows) (code ∷ codes) are among =
    let p : code_at row ≡ Some code = cc in
    let rest : map code_at rows ≡ map Some codes = cc in
    let q : on_both look_up (Some values) (code_at row) ≡ Some (value_at values code) = ap (on_both look_up (Some values)) p ∙ look_up_is values code among.0 in
    let r : map (λ row. on_both look_up (Some values) (code_at row)) rows ≡ map Some (map (value_at values) codes) = looked_up_rows values code_at rows codes rest among.1 in
    cc

-- a dictionary has the values at its codes
pub dictionary_values : (leaves : Leaves) (head : Head) (values codes : Tree) (kept : KeptFields) (vs cs : List Datum) → (head_of codes).rows ≡ head.rows → AreTreeValues leaves values all vs → AreTreeValues leaves codes all cs → AllByRecursion (IsPlaceAmong (length vs)) cs → AreTreeValues leaves (dict head values codes) kept (map (value_at vs) cs)
dictionary_values leaves head values codes kept vs cs same are code_are among =
    let whole : derived_each leaves (each_row (derivation values all) 0 (head_of values).rows) ≡ Some vs = gathered leaves (derivation values all) 0 (head_of values).rows vs are in
    let rows : map (λ row. on_both look_up (Some vs) (value leaves codes all row)) (range_with_len 0 (head_of codes).rows) ≡ map Some (map (value_at vs) cs) = looked_up_rows vs (value leaves codes all) (range_with_len 0 (head_of codes).rows) cs code_are among in
    subst (λ (n : ℕ). map (λ row. on_both look_up (derived_each leaves (each_row (derivation values all) 0 (head_of values).rows)) (value leaves codes all row)) (range_with_len 0 n) ≡ map Some (map (value_at vs) cs)) same
    (subst (λ (o : Option (List Datum)). map (λ row. on_both look_up o (value leaves codes all row)) (range_with_len 0 (head_of codes).rows) ≡ map Some (map (value_at vs) cs)) (sym whole) rows)

-- ---- structs

columns_at : (leaves : Leaves) (ms : Members) (rows : ℕ) (forest : Forest) (columns : List (List Datum)) (row : ℕ) → AreFields ms rows forest → AreColumns leaves ms forest columns → row < rows → derived_each leaves (field_derivations ms forest all row) ≡ Some (map (λ column. get_or column row null) columns)
columns_at leaves no_members rows forest [] row sound are lt = refl
columns_at leaves no_members rows forest (column ∷ columns) row sound are lt = absurd are
columns_at leaves (member name t ms) rows no_trees columns row sound are lt = absurd sound
columns_at leaves (member name t ms) rows (tree first rest) [] row sound are lt = absurd are
columns_at leaves (member name t ms) rows (tree first rest) (column ∷ columns) row sound are lt =
    let size : length column ≡ (head_of first).rows = values_count leaves first all column are.0 in
    let p : derived leaves (derivation first all row) ≡ Some (get_or column row null) = values_at leaves first all column row are.0 (omega (arith, sound.1.rows)) ∙ get_there column row null (omega (arith, sound.1.rows)) in
    let q : derived_each leaves (field_derivations ms rest all row) ≡ Some (map (λ column. get_or column row null) columns) = columns_at leaves ms rows rest columns row sound.2 are.1 lt in
    rw (p, q) refl

map_each : (f : ℕ → Option Datum) (g : ℕ → Datum) (from count end : ℕ) → end ≡ from + count → ((row : ℕ) → row < end → f row ≡ Some (g row)) → map f (range_with_len from count) ≡ map Some (map g (range_with_len from count))
map_each f g from zero end e same = refl
map_each f g from (suc count) end e same =
    let p : f from ≡ Some (g from) = same from (omega arith) in
    let q : map f (range_with_len (from + 1) count) ≡ map Some (map g (range_with_len (from + 1) count)) = map_each f g (from + 1) count end (omega arith) same in
    cc

-- a struct without a validity has a struct of its columns' values at each row
pub struct_values : (leaves : Leaves) (head : Head) (forest : Forest) (columns : List (List Datum)) → AreFields (struct_members head.dtype) head.rows forest → AreColumns leaves (struct_members head.dtype) forest columns → AreTreeValues leaves (fields head forest always) all (map (row_of columns) (range_with_len 0 head.rows))
struct_values leaves head forest columns sound are =
    map_each (value leaves (fields head forest always) all) (row_of columns) 0 head.rows head.rows (omega arith)
    (λ row lt. ap (option_map struct_row) (columns_at leaves (struct_members head.dtype) head.rows forest columns row sound are lt))

-- and null where the validity is false
pub valid_struct_values : (leaves : Leaves) (head : Head) (forest : Forest) (validity : Tree) (columns : List (List Datum)) (truths : List Datum) → AreFields (struct_members head.dtype) head.rows forest → AreColumns leaves (struct_members head.dtype) forest columns → (head_of validity).rows ≡ head.rows → AreTreeValues leaves validity all truths → AreTreeValues leaves (fields head forest (valid_by validity)) all (map (valid_row_of truths columns) (range_with_len 0 head.rows))
valid_struct_values leaves head forest validity columns truths sound are same valid =
    map_each (value leaves (fields head forest (valid_by validity)) all) (valid_row_of truths columns) 0 head.rows head.rows (omega arith)
    (λ row lt.
    let size : length truths ≡ (head_of validity).rows = values_count leaves validity all truths valid in
    let p : derived_each leaves (field_derivations (struct_members head.dtype) forest all row) ≡ Some (map (λ column. get_or column row null) columns) = columns_at leaves (struct_members head.dtype) head.rows forest columns row sound are lt in
    let q : value leaves validity all row ≡ Some (get_or truths row null) = values_at leaves validity all truths row valid (omega arith) ∙ get_there truths row null (omega arith) in
    rw (p, q) refl)

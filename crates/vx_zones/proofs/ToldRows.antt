-- What statistics tell, row by row.
use Rattle.std.proofs.Common.{Bor, ◌≡◌, ℕ, zero, suc, Bool, true, false, List, [], ◌∷◌, length, map, replicate, Option, Some, None, refl, sym, ap, ◌∙◌, subst, arith}
use Rattle.std.specs.Prelude.{IfSome, slice_get}
use Rattle.std.specs.List.{All}
use Rattle.std.proofs.lemmas.List.{length-map}
use Rattle.vx_base.specs.Columns.{ColumnData}
use Rattle.vx_base.specs.ColumnCalls.{natural}
use Rattle.vx_base.specs.Data.{Datum, null, truth, number, text, structure, Items, no_items, item}
use Rattle.vx_base.specs.Slots.{where_valid}
use Rattle.vx_base.specs.Slots.{truth_in}
use Rattle.vx_base.specs.ValueViews.{data_in}
use Rattle.vx_operators.specs.declared.operators.CompareOp.{CompareOp}
use Rattle.vx_operators.specs.declared.operators.CompareOp.TheVariants.{Eq}
use Rattle.vx_operators.specs.Operators.{comparison_of}
use Rattle.vx_operators.specs.Rows.{along, front}
use Rattle.vx_arrays.specs.Cells.{struct_at}
use Rattle.vx_arrays.specs.Fields.{field_at, items_behind, first_item}
use Rattle.vx_arrays.proofs.PackedRows.{truths_seen, held_truths}
use Rattle.vx_base.specs.Rows.{NullsHold}
use Rattle.vx_zones.specs.Prunes.{is_yes, tells}
use Rattle.vx_base.specs.Data.{DataType}
use Rattle.vx_expr.specs.declared.statistics.Statistic.{Statistic}
use Rattle.vx_expr.specs.declared.statistics.Statistic.TheVariants.{NullCount}
use Rattle.vx_zones.specs.Tables.{TableData, table_of, place_of, told_at, IsTable}
use Rattle.vx_zones.specs.Zoned.{IsZoned}
use Rattle.vx_zones.proofs.AlongZones.{along_nulls, along_full}
use Rattle.vx_zones.specs.Tellings.{full_along}

-- ---- a field of structs

all_valid : (mask : List Bool) (vs : List Datum) → All (λ bit. bit ≡ true) mask → length mask ≡ length vs → where_valid mask vs ≡ vs
all_valid [] [] h e = refl
all_valid [] (v ∷ vs) h e = absurd (omega arith)
all_valid (bit ∷ mask) [] h e = absurd (omega arith)
all_valid (true ∷ mask) (v ∷ vs) h e = ap (λ (rest : List Datum). v ∷ rest) (all_valid mask vs (λ k d lt. h (suc k) d (omega (arith, lt))) (omega arith))
all_valid (false ∷ mask) (v ∷ vs) h e = let none : false ≡ true = h zero true (omega arith) in absurd cc

item_there : (place : ℕ) (vs : Items) (v : Datum) → slice_get (data_in vs) place ≡ Some v → first_item (items_behind place vs) ≡ v
item_there zero no_items v e = absurd cc
item_there (suc place) no_items v e = absurd cc
item_there zero (item w vs) v e = cc
item_there (suc place) (item w vs) v e = item_there place vs v e

items_there : (place : ℕ) (rows : List Items) (vs : List Datum) → map (λ is. slice_get (data_in is) place) rows ≡ map Some vs → vs ≡ map (field_at place) (map structure rows)
items_there place [] [] e = refl
items_there place [] (v ∷ vs) e = absurd cc
items_there place (is ∷ rows) [] e = absurd cc
items_there place (is ∷ rows) (v ∷ vs) e =
    let here : slice_get (data_in is) place ≡ Some v = cc in
    let rest : map (λ js. slice_get (data_in js) place) rows ≡ map Some vs = cc in
    let first : v ≡ first_item (items_behind place is) = sym (item_there place is v here) in
    let others : vs ≡ map (field_at place) (map structure rows) = items_there place rows vs rest in
    λ i. first i ∷ others i

pub field_found : (place : ℕ) (mask : List Bool) (rows : List Items) (values : List Datum) (r : Option (Bor ColumnData)) → where_valid mask (map structure rows) ≡ values → length mask ≡ length rows → All (λ bit. bit ≡ true) mask
    → IfSome r (λ part. map (λ vs. slice_get (data_in vs) place) rows ≡ map Some part.now.values) → IfSome r (λ part. part.now.values ≡ map (field_at place) values)
field_found place mask rows values None view len valid found = tt
field_found place mask rows values (Some part) view len valid found =
    let whole : map structure rows ≡ values = sym (all_valid mask (map structure rows) valid (len ∙ sym (length-map rows structure))) ∙ view in
    items_there place rows part.now.values found ∙ ap (map (field_at place)) whole

pub told_none : (values : List Datum) (n : ℕ) → n ≡ length values → replicate n null ≡ map (told_at None) values
told_none [] zero e = refl
told_none [] (suc n) e = absurd (omega arith)
told_none (v ∷ values) zero e = absurd (omega arith)
told_none (v ∷ values) (suc n) e = ap (λ (rest : List Datum). null ∷ rest) (told_none values n (omega arith))

-- ---- a comparison over a whole column

one_more : (o : Option Datum) (rest : List (Option Datum)) (n : ℕ) (tail : List Bool) → length (front (o ∷ rest)) ≡ suc n → (length (front rest) ≡ n → map truth_in (front rest) ≡ tail) → map truth_in (front (o ∷ rest)) ≡ is_yes o ∷ tail
one_more None rest n tail len so_far = absurd (omega (arith, len))
one_more (Some w) rest n tail len so_far = ap (λ (bits : List Bool). truth_in w ∷ bits) (so_far (omega (arith, len)))

whole_yes : (op : CompareOp) (c : Datum) (vs : List Datum) → length (front (along (comparison_of op) vs (replicate (length vs) c))) ≡ length vs
    → map truth_in (front (along (comparison_of op) vs (replicate (length vs) c))) ≡ map (λ v. tells op v c) vs
whole_yes op c [] len = refl
whole_yes op c (v ∷ vs) len = one_more (comparison_of op v c) (along (comparison_of op) vs (replicate (length vs) c)) (length vs) (map (λ w. tells op w c) vs) len (whole_yes op c vs)

pub packed_tells : (op : CompareOp) (c : Datum) (vs made : List Datum) (rows count : ℕ) (valid truths : List Bool) → rows ≡ length vs → made ≡ front (along (comparison_of op) vs (replicate rows c)) → count ≡ length made → count ≡ rows
    → where_valid valid (map truth truths) ≡ made → length valid ≡ length truths → NullsHold false valid truths → truths ≡ map (λ v. tells op v c) vs
packed_tells op c vs made rows count valid truths is front_is counted all view len held =
    let same : made ≡ front (along (comparison_of op) vs (replicate (length vs) c)) = front_is ∙ ap (λ (n : ℕ). front (along (comparison_of op) vs (replicate n c))) is in
    let size : length (front (along (comparison_of op) vs (replicate (length vs) c))) ≡ length vs = sym (ap length same) ∙ sym counted ∙ all ∙ is in
    sym (truths_seen valid truths len (held_truths valid truths held)) ∙ ap (map truth_in) (view ∙ same) ∙ whole_yes op c vs size

-- ---- what compares with nothing

pub struct_tells_nothing : (op : CompareOp) (vs : Items) (c : Datum) → tells op (structure vs) c ≡ false
struct_tells_nothing op vs null = refl
struct_tells_nothing op vs (truth b) = refl
struct_tells_nothing op vs (number z) = refl
struct_tells_nothing op vs (text b) = refl
struct_tells_nothing op vs (structure ws) = refl

pub struct_at_tells_nothing : (op : CompareOp) (rows : List Items) (row : ℕ) (c : Datum) → tells op (struct_at rows row) c ≡ false
struct_at_tells_nothing op [] row c = refl
struct_at_tells_nothing op (vs ∷ rows) zero c = struct_tells_nothing op vs c
struct_at_tells_nothing op (vs ∷ rows) (suc row) c = struct_at_tells_nothing op rows row c

-- ---- what a table tells by one statistic

map_twice : {A B C : Type 0} (f : B → C) (g : A → B) (xs : List A) → map f (map g xs) ≡ map (λ x. f (g x)) xs
map_twice f g [] = refl
map_twice {C = C} f g (x ∷ xs) = ap (λ (rest : List C). f (g x) ∷ rest) (map_twice f g xs)

pub tells_at : (op : CompareOp) (c : Datum) (place : Option ℕ) (values told : List Datum) (mask : List Bool) → told ≡ map (told_at place) values → mask ≡ map (λ v. tells op v c) told → mask ≡ map (λ d. tells op (told_at place d) c) values
tells_at op c place values told mask told_is mask_is = mask_is ∙ ap (map (λ (v : Datum). tells op v c)) told_is ∙ map_twice (λ v. tells op v c) (told_at place) values

pub told_by : (op : CompareOp) (c : Datum) (t : TableData) (stat : Statistic) (dtype : DataType) (stats items : List Statistic) (values : List Datum) (zone_len row_count : ℕ) (place : Option ℕ) (told : List Datum) (mask : List Bool)
    → table_of dtype stats values zone_len row_count ≡ t → items ≡ stats → place ≡ place_of stat items → told ≡ map (told_at place) values → mask ≡ map (λ v. tells op v c) told
    → mask ≡ map (λ d. tells op (told_at (place_of stat t.stats) d) c) t.told
told_by op c t stat dtype stats items values zone_len row_count place told mask view items_is place_is told_is mask_is =
    let same_stats : stats ≡ t.stats = ap (λ (x : TableData). x.stats) view in
    let same_told : values ≡ t.told = ap (λ (x : TableData). x.told) view in
    let there : place ≡ place_of stat t.stats = place_is ∙ ap (place_of stat) (items_is ∙ same_stats) in
    tells_at op c place values told mask told_is mask_is ∙ (λ i. map (λ (d : Datum). tells op (told_at (there i) d) c) (same_told i))

-- ---- what a table keeps beside its zones

pub zoned : (d e : DataType) (stats others : List Statistic) (told : List Datum) (zone_len row_count : ℕ) (shape : DataType) (none all : List Bool) (place : Option ℕ) → e ≡ d → others ≡ stats → place ≡ place_of NullCount stats
    → IsTable d stats shape (length told) zone_len row_count → none ≡ map (λ v. tells Eq (told_at place v) (natural 0)) told → all ≡ full_along zone_len row_count (map (told_at place) told)
    → IsZoned (table_of e others told zone_len row_count) shape none all
zoned d e stats others told zone_len row_count shape none all place same_type same_stats there right none_is all_is =
    let base : IsZoned (table_of d stats told zone_len row_count) shape none all = record {
      right = right;
      none_null = none_is ∙ (λ i. map (λ (v : Datum). tells Eq (told_at (there i) v) (natural 0)) told) ∙ along_nulls (λ (v : Datum). tells Eq v (natural 0)) stats zone_len row_count told;
      all_null = all_is ∙ (λ i. full_along zone_len row_count (map (told_at (there i)) told)) ∙ along_full stats zone_len row_count told;
    } in
    subst (λ (ss : List Statistic). IsZoned (table_of e ss told zone_len row_count) shape none all) (sym same_stats)
    (subst (λ (t : DataType). IsZoned (table_of t stats told zone_len row_count) shape none all) (sym same_type) base)

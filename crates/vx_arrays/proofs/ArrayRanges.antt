-- Arrays, row by row.
use Rattle.std.proofs.Common.{◌≡◌, ℕ, zero, suc, replicate, ◌-◌, pos, map, Bool, true, false, Some, List, [], ◌∷◌, ◌++◌, length, drop, refl, sym, ap, subst, ◌∙◌, arith}
use Rattle.std.specs.List.{slice_range, AllByRecursion}
use Rattle.std.specs.Prelude.{slice_get}
use Rattle.vx_types.specs.Columns.{ColumnData}
use Rattle.vx_types.specs.Data.{DataType, bool_type, int_type, utf8_type, struct_type, list_type, Datum, null, truth, number, text, structure}
use Rattle.vx_types.specs.Slots.{where_valid, is_value, truth_in}
use Rattle.std.proofs.lemmas.List.{length-map, length-append}
use Rattle.vx_arrays.specs.LookUps.{code_places}
use Rattle.vx_arrays.specs.Numbers.{numbers_in}
use Rattle.vx_arrays.specs.Places.{places_in}
use Rattle.vx_arrays.specs.declared.numbers.Numbers.{Numbers}
use Rattle.vx_arrays.specs.declared.arrays.Buffers.TheVariants as variants
use Rattle.vx_arrays.specs.declared.arrays.Buffers.{Buffers}
use Rattle.vx_arrays.specs.ArrayRows.{sliced, filtered, picked_at, joined}
use Rattle.vx_masks.specs.Rows.{taken, NullsHold}
use Rattle.vx_masks.specs.Masks.{chosen}
use Rattle.vx_arrays.specs.Buffers.{buffer_type, buffer_values, blank_in, LeafNullsHold, IsArray, array_column}
use Rattle.vx_arrays.proofs.ValidRows.{length-where_valid, range_where_valid, range-NullsHold, chosen-where_valid, chosen-NullsHold, length-chosen, valid_again, append-where_valid, append-NullsHold}
use Rattle.vx_arrays.proofs.LookedUp.{taken-where_valid, taken-NullsHold, length-taken, places_of_codes}
use Rattle.vx_arrays.proofs.PackedRows.{length_take, length_drop, valid_cell, null_cell, held_truths, held_numbers, held_texts, truths_seen}

pub array_len : (mask : List Bool) (buffers : Buffers) → IsArray mask buffers → length (where_valid mask (buffer_values buffers)) ≡ length mask
array_len mask buffers h = length-where_valid mask (buffer_values buffers) h.rows

range_held : (t : DataType) (mask : List Bool) (values : List Datum) (from to : ℕ) → LeafNullsHold t mask values → LeafNullsHold t (slice_range mask from to) (slice_range values from to)
range_held (struct_type ms n) mask values from to h = tt
range_held (bool_type n) mask values from to h = range-NullsHold (blank_in (bool_type n)) mask values from to h
range_held (int_type kind n) mask values from to h = range-NullsHold (blank_in (int_type kind n)) mask values from to h
range_held (utf8_type n) mask values from to h = range-NullsHold (blank_in (utf8_type n)) mask values from to h
range_held (list_type t n) mask values from to h = range-NullsHold (blank_in (list_type t n)) mask values from to h

-- what is picked of an array is an array
picked : (mask : List Bool) (buffers others : Buffers) (some : List Datum) → buffer_type others ≡ buffer_type buffers → buffer_values others ≡ some → length mask ≡ length some → LeafNullsHold (buffer_type buffers) mask some → IsArray mask others
picked mask buffers others some same is len held = record {
  rows = len ∙ sym (ap length is);
  held = subst (λ (s : DataType). LeafNullsHold s mask (buffer_values others)) (sym same) (subst (λ (vs : List Datum). LeafNullsHold (buffer_type buffers) mask vs) (sym is) held);
}

pub array_ranged : (mask bits : List Bool) (buffers others : Buffers) (from to : ℕ) → IsArray mask buffers → buffer_type others ≡ buffer_type buffers → buffer_values others ≡ slice_range (buffer_values buffers) from to → bits ≡ slice_range mask from to → IsArray bits others
array_ranged mask bits buffers others from to h same is e =
    subst (λ (bs : List Bool). IsArray bs others) (sym e)
    (picked (slice_range mask from to) buffers others (slice_range (buffer_values buffers) from to) same is
    (length_take (to - from) (drop from mask) (drop from (buffer_values buffers)) (length_drop from mask (buffer_values buffers) h.rows))
    (range_held (buffer_type buffers) mask (buffer_values buffers) from to h.held))

pub array_sliced : (mask bits : List Bool) (buffers others : Buffers) (from to : ℕ) → buffer_type others ≡ buffer_type buffers → buffer_values others ≡ slice_range (buffer_values buffers) from to → bits ≡ slice_range mask from to → array_column bits others ≡ sliced from to (array_column mask buffers)
array_sliced mask bits buffers others from to same is e = λ i. record {
  dtype = same i;
  values = ((λ j. where_valid (e j) (is j)) ∙ sym (range_where_valid mask (buffer_values buffers) from to)) i;
}

-- ---- chosen rows
chosen_held : (t : DataType) (bits mask : List Bool) (values : List Datum) → length mask ≡ length values → LeafNullsHold t mask values → LeafNullsHold t (chosen bits mask) (chosen bits values)
chosen_held (struct_type ms n) bits mask values e h = tt
chosen_held (bool_type n) bits mask values e h = chosen-NullsHold (blank_in (bool_type n)) bits mask values e h
chosen_held (int_type kind n) bits mask values e h = chosen-NullsHold (blank_in (int_type kind n)) bits mask values e h
chosen_held (utf8_type n) bits mask values e h = chosen-NullsHold (blank_in (utf8_type n)) bits mask values e h
chosen_held (list_type t n) bits mask values e h = chosen-NullsHold (blank_in (list_type t n)) bits mask values e h

pub array_chosen : (bits mask kept : List Bool) (buffers others : Buffers) → IsArray mask buffers → buffer_type others ≡ buffer_type buffers → buffer_values others ≡ chosen bits (buffer_values buffers) → kept ≡ chosen bits mask → IsArray kept others
array_chosen bits mask kept buffers others h same is e =
    subst (λ (bs : List Bool). IsArray bs others) (sym e)
    (picked (chosen bits mask) buffers others (chosen bits (buffer_values buffers)) same is
    (length-chosen bits mask (buffer_values buffers) h.rows)
    (chosen_held (buffer_type buffers) bits mask (buffer_values buffers) h.rows h.held))

pub array_filtered : (bits mask kept : List Bool) (buffers others : Buffers) → IsArray mask buffers → buffer_type others ≡ buffer_type buffers → buffer_values others ≡ chosen bits (buffer_values buffers) → kept ≡ chosen bits mask → array_column kept others ≡ filtered bits (array_column mask buffers)
array_filtered bits mask kept buffers others h same is e = λ i. record {
  dtype = same i;
  values = ((λ j. where_valid (e j) (is j)) ∙ sym (chosen-where_valid bits mask (buffer_values buffers) h.rows)) i;
}

-- ---- chosen rows of a range
ranges_len : (mask : List Bool) (values : List Datum) (from to : ℕ) → length mask ≡ length values → length (slice_range mask from to) ≡ length (slice_range values from to)
ranges_len mask values from to e = length_take (to - from) (drop from mask) (drop from values) (length_drop from mask values e)

pub array_range_chosen : (bits mask kept : List Bool) (buffers others : Buffers) (from to : ℕ) → IsArray mask buffers → buffer_type others ≡ buffer_type buffers → buffer_values others ≡ chosen bits (slice_range (buffer_values buffers) from to) → kept ≡ chosen bits (slice_range mask from to) → IsArray kept others
array_range_chosen bits mask kept buffers others from to h same is e =
    let len = ranges_len mask (buffer_values buffers) from to h.rows in
    subst (λ (bs : List Bool). IsArray bs others) (sym e)
    (picked (chosen bits (slice_range mask from to)) buffers others (chosen bits (slice_range (buffer_values buffers) from to)) same is
    (length-chosen bits (slice_range mask from to) (slice_range (buffer_values buffers) from to) len)
    (chosen_held (buffer_type buffers) bits (slice_range mask from to) (slice_range (buffer_values buffers) from to) len (range_held (buffer_type buffers) mask (buffer_values buffers) from to h.held)))

pub array_range_filtered : (bits mask kept : List Bool) (buffers others : Buffers) (from to : ℕ) → IsArray mask buffers → buffer_type others ≡ buffer_type buffers → buffer_values others ≡ chosen bits (slice_range (buffer_values buffers) from to) → kept ≡ chosen bits (slice_range mask from to) → array_column kept others ≡ filtered bits (sliced from to (array_column mask buffers))
array_range_filtered bits mask kept buffers others from to h same is e = λ i. record {
  dtype = same i;
  values = ((λ j. where_valid (e j) (is j)) ∙ sym (chosen-where_valid bits (slice_range mask from to) (slice_range (buffer_values buffers) from to) (ranges_len mask (buffer_values buffers) from to h.rows)) ∙ ap (chosen bits) (sym (range_where_valid mask (buffer_values buffers) from to))) i;
}

-- ---- taken rows
taken_held : (t : DataType) (mask : List Bool) (values : List Datum) (places : List ℕ) → length mask ≡ length values → LeafNullsHold t mask values → LeafNullsHold t (taken false mask places) (taken (blank_in t) values places)
taken_held (struct_type ms n) mask values places e h = tt
taken_held (bool_type n) mask values places e h = taken-NullsHold (blank_in (bool_type n)) mask values places e h
taken_held (int_type kind n) mask values places e h = taken-NullsHold (blank_in (int_type kind n)) mask values places e h
taken_held (utf8_type n) mask values places e h = taken-NullsHold (blank_in (utf8_type n)) mask values places e h
taken_held (list_type t n) mask values places e h = taken-NullsHold (blank_in (list_type t n)) mask values places e h

pub array_taken : (mask found : List Bool) (buffers others : Buffers) (places : List ℕ) → IsArray mask buffers → buffer_type others ≡ buffer_type buffers → buffer_values others ≡ taken (blank_in (buffer_type buffers)) (buffer_values buffers) places → found ≡ taken false mask places → IsArray found others
array_taken mask found buffers others places h same is e =
    subst (λ (bs : List Bool). IsArray bs others) (sym e)
    (picked (taken false mask places) buffers others (taken (blank_in (buffer_type buffers)) (buffer_values buffers) places) same is
    (length-taken false (blank_in (buffer_type buffers)) mask (buffer_values buffers) places)
    (taken_held (buffer_type buffers) mask (buffer_values buffers) places h.rows h.held))

pub array_picked : (mask found : List Bool) (buffers others : Buffers) (places : List ℕ) → IsArray mask buffers → buffer_type others ≡ buffer_type buffers → buffer_values others ≡ taken (blank_in (buffer_type buffers)) (buffer_values buffers) places → found ≡ taken false mask places → array_column found others ≡ picked_at places (array_column mask buffers)
array_picked mask found buffers others places h same is e = λ i. record {
  dtype = same i;
  values = ((λ j. where_valid (e j) (is j)) ∙ taken-where_valid (blank_in (buffer_type buffers)) mask (buffer_values buffers) places h.rows) i;
}

-- ---- the value of a row
pub cell_valid : (mask : List Bool) (buffers : Buffers) (row : ℕ) (v : Datum) (column : ColumnData) → array_column mask buffers ≡ column → slice_get mask row ≡ Some true → slice_get (buffer_values buffers) row ≡ Some v → slice_get column.values row ≡ Some v
cell_valid mask buffers row v column view e f = ap (λ (a : ColumnData). slice_get a.values row) (sym view) ∙ valid_cell mask (buffer_values buffers) row v e f

pub cell_null : (mask : List Bool) (buffers : Buffers) (row : ℕ) (column : ColumnData) → array_column mask buffers ≡ column → IsArray mask buffers → slice_get mask row ≡ Some false → slice_get column.values row ≡ Some null
cell_null mask buffers row column view h e = ap (λ (a : ColumnData). slice_get a.values row) (sym view) ∙ null_cell mask (buffer_values buffers) row h.rows e

-- ---- which rows are valid
there : {X : Type 0} (f : X → Datum) → ((x : X) → is_value (f x) ≡ true) → (xs : List X) → AllByRecursion (λ v. is_value v ≡ true) (map f xs)
there f h [] = tt
there f h (x ∷ xs) = (h x, there f h xs)

buffers_there : (buffers : Buffers) → AllByRecursion (λ v. is_value v ≡ true) (buffer_values buffers)
buffers_there (variants.Truths bits) = there truth (λ b. refl) bits
buffers_there (variants.Numbers numbers) = there number (λ z. refl) (numbers_in numbers)
buffers_there (variants.Texts texts) = there text (λ t. refl) texts
buffers_there (variants.Structs structs) = there structure (λ vs. refl) structs.rows
buffers_there (variants.Lists bits) = there truth (λ b. refl) bits

pub array_validity : (mask : List Bool) (buffers : Buffers) → IsArray mask buffers → mask ≡ map is_value (where_valid mask (buffer_values buffers))
array_validity mask buffers h = sym (valid_again mask (buffer_values buffers) h.rows (buffers_there buffers))

-- ---- leaves
pub truths_array : (mask bits : List Bool) → length mask ≡ length bits → NullsHold false mask bits → IsArray mask (variants.Truths bits)
truths_array mask bits len held = record { rows = len ∙ sym (length-map bits truth); held = held_truths mask bits held }

pub numbers_array : (mask : List Bool) (numbers : Numbers) → length mask ≡ length (numbers_in numbers) → NullsHold (pos 0) mask (numbers_in numbers) → IsArray mask (variants.Numbers numbers)
numbers_array mask numbers len held = record { rows = len ∙ sym (length-map (numbers_in numbers) number); held = held_numbers mask (numbers_in numbers) held }

pub texts_array : (mask : List Bool) (ts : List (List ℕ)) → length mask ≡ length ts → NullsHold [] mask ts → IsArray mask (variants.Texts ts)
texts_array mask ts len held = record { rows = len ∙ sym (length-map ts text); held = held_texts mask ts held }

pub truths_are : (mask bits truths : List Bool) (buffers : Buffers) (column : ColumnData) → array_column mask buffers ≡ column → IsArray mask buffers → buffers ≡ variants.Truths bits → truths ≡ bits → truths ≡ map truth_in column.values
truths_are mask bits truths buffers column view h e g =
    let whole : IsArray mask (variants.Truths bits) = subst (λ (s : Buffers). IsArray mask s) e h in
    g ∙ sym (truths_seen mask bits (whole.rows ∙ length-map bits truth) whole.held) ∙ ap (λ (s : Buffers). map truth_in (where_valid mask (buffer_values s))) (sym e) ∙ ap (λ (c : ColumnData). map truth_in c.values) view

pub array_places : (past : ℕ) (mask : List Bool) (buffers : Buffers) (numbers : Numbers) (bits : List Bool) (column : ColumnData) → buffers ≡ variants.Numbers numbers → bits ≡ mask → array_column mask buffers ≡ column → places_in past bits (numbers_in numbers) ≡ code_places past column.values
array_places past mask buffers numbers bits column e f view =
    ap (λ (bs : List Bool). places_in past bs (numbers_in numbers)) f
    ∙ places_of_codes past mask (numbers_in numbers)
    ∙ ap (λ (s : Buffers). code_places past (where_valid mask (buffer_values s))) (sym e)
    ∙ ap (λ (c : ColumnData). code_places past c.values) view

-- ---- rows behind rows
append_held : (t : DataType) (mask more : List Bool) (values others : List Datum) → length mask ≡ length values → LeafNullsHold t mask values → LeafNullsHold t more others → LeafNullsHold t (mask ++ more) (values ++ others)
append_held (struct_type ms n) mask more values others e g h = tt
append_held (bool_type n) mask more values others e g h = append-NullsHold (blank_in (bool_type n)) mask more values others e g h
append_held (int_type kind n) mask more values others e g h = append-NullsHold (blank_in (int_type kind n)) mask more values others e g h
append_held (utf8_type n) mask more values others e g h = append-NullsHold (blank_in (utf8_type n)) mask more values others e g h
append_held (list_type t n) mask more values others e g h = append-NullsHold (blank_in (list_type t n)) mask more values others e g h

pub array_appended : (mask more bits : List Bool) (buffers others made : Buffers) → IsArray mask buffers → IsArray more others → buffer_type others ≡ buffer_type buffers → buffer_type made ≡ buffer_type buffers → buffer_values made ≡ buffer_values buffers ++ buffer_values others → bits ≡ mask ++ more → IsArray bits made
array_appended mask more bits buffers others made g h types same is e =
    subst (λ (bs : List Bool). IsArray bs made) (sym e)
    (picked (mask ++ more) buffers made (buffer_values buffers ++ buffer_values others) same is
    (omega (arith, length-append mask more, length-append (buffer_values buffers) (buffer_values others), g.rows, h.rows))
    (append_held (buffer_type buffers) mask more (buffer_values buffers) (buffer_values others) g.rows g.held (subst (λ (t : DataType). LeafNullsHold t more (buffer_values others)) types h.held)))

pub array_joined : (mask more bits : List Bool) (buffers others made : Buffers) → IsArray mask buffers → buffer_type made ≡ buffer_type buffers → buffer_values made ≡ buffer_values buffers ++ buffer_values others → bits ≡ mask ++ more → array_column bits made ≡ joined (array_column mask buffers) (array_column more others)
array_joined mask more bits buffers others made g same is e = λ i. record {
  dtype = same i;
  values = ((λ j. where_valid (e j) (is j)) ∙ append-where_valid mask more (buffer_values buffers) (buffer_values others) g.rows) i;
}

-- ---- lists, none of which is valid
nulls_held : (n : ℕ) → NullsHold (truth false) (replicate n false) (map truth (replicate n false))
nulls_held zero = tt
nulls_held (suc n) = (refl, nulls_held n)

pub nulls_array : (mask bits : List Bool) (n : ℕ) → mask ≡ replicate n false → bits ≡ replicate n false → IsArray mask (variants.Lists bits)
nulls_array mask bits n e f = record {
  rows = ap length (e ∙ sym f) ∙ sym (length-map bits truth);
  held = subst (λ (bs : List Bool). NullsHold (truth false) bs (map truth bits)) (sym e) (subst (λ (bs : List Bool). NullsHold (truth false) (replicate n false) (map truth bs)) (sym f) (nulls_held n));
}

all_null : (n : ℕ) → where_valid (replicate n false) (map truth (replicate n false)) ≡ replicate n null
all_null zero = refl
all_null (suc n) = ap (λ (vs : List Datum). null ∷ vs) (all_null n)

pub nulls_values : (mask bits : List Bool) (n : ℕ) → mask ≡ replicate n false → bits ≡ replicate n false → where_valid mask (map truth bits) ≡ replicate n null
nulls_values mask bits n e f = (λ i. where_valid (e i) (map truth (f i))) ∙ all_null n

-- Packed columns, row by row.
use Rattle.std.proofs.Common.{◌≡◌, ℕ, zero, suc, ℤ, pos, ◌-◌, Bool, true, false, List, [], ◌∷◌, length, map, take, drop, Some, refl, sym, ap, subst, ◌∙◌, arith}
use Rattle.std.specs.Prelude.{slice_get}
use Rattle.std.specs.List.{AllByRecursion, slice_range}
use Rattle.vx_types.specs.Columns.{ColumnData}
use Rattle.vx_types.specs.declared.dtypes.Nullability.{Nullability}
use Rattle.vx_types.specs.declared.dtypes.Nullability.TheVariants.{NonNullable, Nullable}
use Rattle.vx_types.specs.Data.{DataType, bool_type, int_type, utf8_type, struct_type, list_type, Datum, null, truth, number, text}
use Rattle.vx_types.specs.Fits.{Fits, IsInside, TakesNull, nullability_of}
use Rattle.vx_types.specs.ColumnCalls.{IsBool, made_nullable, nullable_where, IsUnsigned}
use Rattle.vx_types.specs.Slots.{truth_in, where_valid}
use Rattle.vx_types.specs.declared.dtypes.IntKind.{IntKind}
use Rattle.vx_arrays.proofs.BufferRows.{numbers_fit}
use Rattle.vx_types.proofs.AllFit.{all-append}
use Rattle.vx_types.proofs.BuiltRows.{fits_nullable}
use Rattle.vx_masks.specs.Masks.{chosen}
use Rattle.vx_masks.specs.Rows.{NullsHold}
use Rattle.vx_arrays.specs.Buffers.{bare, Takes}
use Rattle.vx_arrays.specs.PackedColumns.{IsColumn}
use Rattle.vx_arrays.specs.ArrayRows.{sliced, filtered, joined}

-- ---- what fits
null_fits : (t : DataType) → TakesNull (nullability_of t) → Fits t null
null_fits (bool_type n) h = h
null_fits (int_type kind n) h = h
null_fits (utf8_type n) h = h
null_fits (struct_type ms n) h = h
null_fits (list_type t n) h = h

pub all_fit : (t : DataType) (mask : List Bool) (values : List Datum) → AllByRecursion (Takes (nullability_of t)) mask → AllByRecursion (Fits t) values → AllByRecursion (Fits t) (where_valid mask values)
all_fit t [] values h f = tt
all_fit t (bit ∷ mask) [] h f = tt
all_fit t (true ∷ mask) (v ∷ values) h f = (f.0, all_fit t mask values h.1 f.1)
all_fit t (false ∷ mask) (v ∷ values) h f = (null_fits t h.0, all_fit t mask values h.1 f.1)

pub all_take : {X : Type 0} (P : X → Type 0) (n : ℕ) (xs : List X) → AllByRecursion P xs → AllByRecursion P (take n xs)
all_take P zero xs h = tt
all_take P (suc n) [] h = tt
all_take P (suc n) (x ∷ xs) h = (h.0, all_take P n xs h.1)

pub all_drop : {X : Type 0} (P : X → Type 0) (n : ℕ) (xs : List X) → AllByRecursion P xs → AllByRecursion P (drop n xs)
all_drop P zero xs h = h
all_drop P (suc n) [] h = tt
all_drop P (suc n) (x ∷ xs) h = all_drop P n xs h.1

all_chosen : {X : Type 0} (P : X → Type 0) (bits : List Bool) (xs : List X) → AllByRecursion P xs → AllByRecursion P (chosen bits xs)
all_chosen P [] xs h = tt
all_chosen P (true ∷ bits) [] h = tt
all_chosen P (false ∷ bits) [] h = tt
all_chosen P (true ∷ bits) (x ∷ xs) h = (h.0, all_chosen P bits xs h.1)
all_chosen P (false ∷ bits) (x ∷ xs) h = all_chosen P bits xs h.1

-- ---- what is picked of a column is a column
picked_column : (s t : DataType) (rows others : ColumnData) → s ≡ t → others.dtype ≡ rows.dtype → AllByRecursion (Fits t) others.values → IsColumn t rows → IsColumn s others
picked_column s t rows others e same fit h = subst (λ (r : DataType). IsColumn r others) (sym e) (record { shape = h.shape ∙ sym same; fit = fit })

pub column_range : (s t : DataType) (rows others : ColumnData) (from to : ℕ) → s ≡ t → others ≡ sliced from to rows → IsColumn t rows → IsColumn s others
column_range s t rows others from to e is h = picked_column s t rows others e (ap (λ (c : ColumnData). c.dtype) is) (subst (λ (c : ColumnData). AllByRecursion (Fits t) c.values) (sym is) (all_take (Fits t) (to - from) (drop from rows.values) (all_drop (Fits t) from rows.values h.fit))) h

pub column_chosen : (s t : DataType) (bits : List Bool) (rows others : ColumnData) → s ≡ t → others ≡ filtered bits rows → IsColumn t rows → IsColumn s others
column_chosen s t bits rows others e is h = picked_column s t rows others e (ap (λ (c : ColumnData). c.dtype) is) (subst (λ (c : ColumnData). AllByRecursion (Fits t) c.values) (sym is) (all_chosen (Fits t) bits rows.values h.fit)) h

-- ---- a range
pub length_take : {X Y : Type 0} (k : ℕ) (xs : List X) (ys : List Y) → length xs ≡ length ys → length (take k xs) ≡ length (take k ys)
length_take zero xs ys e = refl
length_take (suc k) [] [] e = refl
length_take (suc k) (x ∷ xs) (y ∷ ys) e = omega (arith, length_take k xs ys (omega arith))
length_take (suc k) [] (y ∷ ys) e = absurd (omega arith)
length_take (suc k) (x ∷ xs) [] e = absurd (omega arith)

pub length_drop : {X Y : Type 0} (k : ℕ) (xs : List X) (ys : List Y) → length xs ≡ length ys → length (drop k xs) ≡ length (drop k ys)
length_drop zero xs ys e = e
length_drop (suc k) [] [] e = refl
length_drop (suc k) (x ∷ xs) (y ∷ ys) e = length_drop k xs ys (omega arith)
length_drop (suc k) [] (y ∷ ys) e = absurd (omega arith)
length_drop (suc k) (x ∷ xs) [] e = absurd (omega arith)

-- ---- the value of a row
pub valid_cell : (mask : List Bool) (values : List Datum) (row : ℕ) (v : Datum) → slice_get mask row ≡ Some true → slice_get values row ≡ Some v → slice_get (where_valid mask values) row ≡ Some v
valid_cell [] values row v e f = absurd cc
valid_cell (bit ∷ mask) [] row v e f = absurd cc
valid_cell (true ∷ mask) (w ∷ values) zero v e f = f
valid_cell (false ∷ mask) (w ∷ values) zero v e f = absurd cc
valid_cell (bit ∷ mask) (w ∷ values) (suc row) v e f = valid_cell mask values row v e f

pub null_cell : (mask : List Bool) (values : List Datum) (row : ℕ) → length mask ≡ length values → slice_get mask row ≡ Some false → slice_get (where_valid mask values) row ≡ Some null
null_cell [] values row len e = absurd cc
null_cell (bit ∷ mask) [] row len e = absurd (omega arith)
null_cell (true ∷ mask) (w ∷ values) zero len e = absurd cc
null_cell (false ∷ mask) (w ∷ values) zero len e = refl
null_cell (bit ∷ mask) (w ∷ values) (suc row) len e = null_cell mask values row (omega arith) e

-- ---- all rows
pub whole_range : {X : Type 0} (xs : List X) → slice_range xs 0 (length xs) ≡ xs
whole_range xs = take_all xs (length xs - 0) (omega arith)
  where
    take_all : {Y : Type 0} (ys : List Y) (n : ℕ) → length ys ≡ n → take n ys ≡ ys
    take_all [] zero e = refl
    take_all {Y} (y ∷ ys) (suc n) e = ap (λ (zs : List Y). y ∷ zs) (take_all ys n (omega arith))
    take_all [] (suc n) e = absurd (omega arith)
    take_all (y ∷ ys) zero e = absurd (omega arith)

pub same_column : (a b : ColumnData) → a.dtype ≡ b.dtype → a.values ≡ slice_range b.values 0 (length b.values) → a ≡ b
same_column a b p q = λ i. record { dtype = p i; values = (q ∙ whole_range b.values) i }

-- ---- nulls of leaves
pub held_truths : (mask bits : List Bool) → NullsHold false mask bits → NullsHold (truth false) mask (map truth bits)
held_truths [] bits h = tt
held_truths (true ∷ mask) [] h = tt
held_truths (false ∷ mask) [] h = tt
held_truths (true ∷ mask) (b ∷ bits) h = held_truths mask bits h
held_truths (false ∷ mask) (b ∷ bits) h = (ap truth h.0, held_truths mask bits h.1)

pub held_numbers : (mask : List Bool) (zs : List ℤ) → NullsHold (pos 0) mask zs → NullsHold (number (pos 0)) mask (map number zs)
held_numbers [] zs h = tt
held_numbers (true ∷ mask) [] h = tt
held_numbers (false ∷ mask) [] h = tt
held_numbers (true ∷ mask) (z ∷ zs) h = held_numbers mask zs h
held_numbers (false ∷ mask) (z ∷ zs) h = (ap number h.0, held_numbers mask zs h.1)

pub held_texts : (mask : List Bool) (ts : List (List ℕ)) → NullsHold [] mask ts → NullsHold (text []) mask (map text ts)
held_texts [] ts h = tt
held_texts (true ∷ mask) [] h = tt
held_texts (false ∷ mask) [] h = tt
held_texts (true ∷ mask) (t ∷ ts) h = held_texts mask ts h
held_texts (false ∷ mask) (t ∷ ts) h = (ap text h.0, held_texts mask ts h.1)

-- ---- truth
pub truths_seen : (mask bits : List Bool) → length mask ≡ length bits → NullsHold (truth false) mask (map truth bits) → map truth_in (where_valid mask (map truth bits)) ≡ bits
truths_seen [] [] e h = refl
truths_seen (true ∷ mask) (b ∷ bits) e h = ap (λ (bs : List Bool). b ∷ bs) (truths_seen mask bits (omega arith) h)
truths_seen (false ∷ mask) (b ∷ bits) e h =
    let here : false ≡ b = ap truth_in (sym h.0) in
    λ i. here i ∷ truths_seen mask bits (omega arith) h.1 i
truths_seen [] (b ∷ bits) e h = absurd (omega arith)
truths_seen (bit ∷ mask) [] e h = absurd (omega arith)

-- ---- dtypes without names and nulls
pub unsigned_bare : (t : DataType) (rows : ColumnData) → IsColumn t rows → IsUnsigned t → IsUnsigned rows.dtype
unsigned_bare (int_type kind n) rows h u = subst (λ (s : DataType). IsUnsigned s) h.shape u
unsigned_bare (bool_type n) rows h u = absurd u
unsigned_bare (utf8_type n) rows h u = absurd u
unsigned_bare (struct_type ms n) rows h u = absurd u
unsigned_bare (list_type t n) rows h u = absurd u

pub bool_bare : (t : DataType) (rows : ColumnData) → IsColumn t rows → IsBool t → IsBool rows.dtype
bool_bare (bool_type n) rows h u = subst (λ (s : DataType). IsBool s) h.shape u
bool_bare (int_type kind n) rows h u = absurd u
bool_bare (utf8_type n) rows h u = absurd u
bool_bare (struct_type ms n) rows h u = absurd u
bool_bare (list_type t n) rows h u = absurd u

bare_made : (t : DataType) → bare (made_nullable t) ≡ bare t
bare_made (bool_type n) = refl
bare_made (int_type kind n) = refl
bare_made (utf8_type n) = refl
bare_made (struct_type ms n) = refl
bare_made (list_type t n) = refl

pub bare_where : (n : Nullability) (t : DataType) → bare (nullable_where n t) ≡ bare t
bare_where NonNullable t = refl
bare_where Nullable t = bare_made t

-- ---- columns of leaves
pub column_of_numbers : (kind other : IntKind) (n : Nullability) (mask : List Bool) (zs : List ℤ) (rows : ColumnData) → other ≡ kind → rows.dtype ≡ int_type other NonNullable → rows.values ≡ where_valid mask (map number zs)
    → AllByRecursion (IsInside other) zs → AllByRecursion (Takes n) mask → IsColumn (int_type kind n) rows
column_of_numbers kind other n mask zs rows e type values inside takes = record {
  shape = ap (λ (k : IntKind). int_type k NonNullable) (sym e) ∙ sym type;
  fit = subst (λ (vs : List Datum). AllByRecursion (Fits (int_type kind n)) vs) (sym values)
      (all_fit (int_type kind n) mask (map number zs) takes (numbers_fit n kind zs (subst (λ (k : IntKind). AllByRecursion (IsInside k) zs) e inside)));
}

-- ---- rows behind rows
pub same_shape : (s t : DataType) (rows others : ColumnData) → s ≡ t → IsColumn t rows → IsColumn s others → others.dtype ≡ rows.dtype
same_shape s t rows others e g h = sym h.shape ∙ ap bare e ∙ g.shape

pub column_joined : (s t : DataType) (rows others made : ColumnData) → s ≡ t → made ≡ joined rows others → IsColumn t rows → IsColumn s others → IsColumn t made
column_joined s t rows others made e is g h =
    let fit : AllByRecursion (Fits t) others.values = subst (λ (r : DataType). AllByRecursion (Fits r) others.values) e h.fit in
    subst (λ (c : ColumnData). IsColumn t c) (sym is) (record { shape = g.shape; fit = all-append (Fits t) rows.values others.values g.fit fit })

-- ---- lists

-- ---- columns of values
pub all_nullable : (t : DataType) (vs : List Datum) → AllByRecursion (Fits t) vs → AllByRecursion (Fits (made_nullable t)) vs
all_nullable t [] h = tt
all_nullable t (v ∷ vs) h = (fits_nullable t v h.0, all_nullable t vs h.1)

pub column_of_values : (t : DataType) (vs : List Datum) (rows : ColumnData) → AllByRecursion (Fits t) vs → rows.dtype ≡ bare t → rows.values ≡ vs → IsColumn t rows
column_of_values t vs rows fit type values = record { shape = sym type; fit = subst (AllByRecursion (Fits t)) (sym values) fit }

-- The values of a sound tree fit its dtype, where those of the leaves fit theirs.
use Rattle.std.proofs.Common.{◌≡◌, ℕ, zero, suc, ◌+◌, ◌-◌, ltb, pos, negsuc, Bool, true, false, cond, List, [], ◌∷◌, Option, Some, None, refl, sym, subst}
use Rattle.std.specs.Prelude.{option_and_then, option_map, IfSome}
use Rattle.std.specs.List.{slice_get, AllByRecursion}
use Rattle.vx_base.specs.declared.dtypes.Nullability.{Nullability}
use Rattle.vx_base.specs.declared.dtypes.Nullability.TheVariants.{NonNullable, Nullable}
use Rattle.vx_base.specs.Data.{DataType, bool_type, int_type, utf8_type, struct_type, list_type, Members, no_members, member, Datum, null, truth, number, text, structure}
use Rattle.vx_base.specs.Fits.{Fits, EachFits, nullability_of}
use Rattle.vx_base.specs.ColumnCalls.{nullable_where, IsUnsigned}
use Rattle.vx_base.specs.ValueViews.{items_from}
use Rattle.vx_expr.specs.Types.{on_both}
use Rattle.vx_expr.specs.Packs.{struct_row}
use Rattle.vx_layout.specs.Trees.{Tree, missing, leaf, chunks, fields, dict, lists, zoned, Forest, no_trees, tree, Validity, always, valid_by, head_of}
use Rattle.vx_layout.specs.Kept.{all}
use Rattle.vx_rows.specs.Derivations.{Derivation, packed, each_row, Leaves, where_valid, look_up, one_more, derived, derived_each}
use Rattle.vx_layout.specs.Rows.{struct_members, derivation, derivation_in, field_derivations, where_valid_by}
use Rattle.vx_layout.specs.Sound.{IsSound, AreChunks, AreFields, IsValidity}
use Rattle.vx_rows.specs.Whole.{GiveFitting}
use Rattle.vx_rows.specs.TypeForms.{IsStruct}
use Rattle.vx_types.proofs.BuiltRows.{fits_where, null_fits}

-- ---- dtypes that take nulls

-- a null code fits where nulls are taken
null_code_fits : (s t : DataType) → IsUnsigned s → Fits s null → Fits (nullable_where (nullability_of s) t) null
null_code_fits (int_type kind NonNullable) t unsigned fit = absurd fit
null_code_fits (int_type kind Nullable) t unsigned fit = null_fits t
null_code_fits (bool_type n) t unsigned fit = absurd unsigned
null_code_fits (utf8_type n) t unsigned fit = absurd unsigned
null_code_fits (struct_type ms n) t unsigned fit = absurd unsigned
null_code_fits (list_type r n) t unsigned fit = absurd unsigned

-- ---- what is taken from lists of values

pub get_fits : (P : Datum → Type 0) (values : List Datum) (row : ℕ) → AllByRecursion P values → IfSome (slice_get values row) P
get_fits P [] row each = tt
get_fits P (v ∷ values) zero each = each.0
get_fits P (v ∷ values) (suc row) each = get_fits P values row each.1

leaf_row_fits : (P : Datum → Type 0) (values : Option (List Datum)) (row : ℕ) → IfSome values (AllByRecursion P) → IfSome (option_and_then (λ found. slice_get found row) values) P
leaf_row_fits P None row each = tt
leaf_row_fits P (Some values) row each = get_fits P values row each

if_some_at : (P Q : Datum → Type 0) → ((v : Datum) → P v → Q v) → (o : Option Datum) → IfSome o P → IfSome o Q
if_some_at P Q f None h = tt
if_some_at P Q f (Some v) h = f v h

look_up_fits : (s t : DataType) (values : List Datum) (code : Datum) → IsUnsigned s → AllByRecursion (Fits t) values → Fits s code → IfSome (look_up values code) (Fits (nullable_where (nullability_of s) t))
look_up_fits s t values null unsigned each fit = null_code_fits s t unsigned fit
look_up_fits s t values (truth b) unsigned each fit = tt
look_up_fits s t values (number (pos place)) unsigned each fit = if_some_at (Fits t) (Fits (nullable_where (nullability_of s) t)) (λ v h. fits_where (nullability_of s) t v h) (slice_get values place) (get_fits (Fits t) values place each)
look_up_fits s t values (number (negsuc n)) unsigned each fit = tt
look_up_fits s t values (text bytes) unsigned each fit = tt
look_up_fits s t values (structure vs) unsigned each fit = tt

looked_up_fits : (s t : DataType) (values : Option (List Datum)) (code : Option Datum) → IsUnsigned s → IfSome values (AllByRecursion (Fits t)) → IfSome code (Fits s) → IfSome (on_both look_up values code) (Fits (nullable_where (nullability_of s) t))
looked_up_fits s t None code unsigned each fit = tt
looked_up_fits s t (Some values) None unsigned each fit = tt
looked_up_fits s t (Some values) (Some code) unsigned each fit = look_up_fits s t values code unsigned each fit

more_fits : (P : Datum → Type 0) (d : Option Datum) (ds : Option (List Datum)) → IfSome d P → IfSome ds (AllByRecursion P) → IfSome (on_both one_more d ds) (AllByRecursion P)
more_fits P None ds h each = tt
more_fits P (Some v) None h each = tt
more_fits P (Some v) (Some vs) h each = (h, each)

abbrev AreItemsOf : Members → List Datum → Type 0
AreItemsOf ms values = EachFits ms (items_from values)

item_fits : (name : List ℕ) (t : DataType) (ms : Members) (d : Option Datum) (ds : Option (List Datum)) → IfSome d (Fits t) → IfSome ds (AreItemsOf ms) → IfSome (on_both one_more d ds) (AreItemsOf (member name t ms))
item_fits name t ms None ds h each = tt
item_fits name t ms (Some v) None h each = tt
item_fits name t ms (Some v) (Some vs) h each = (h, each)

struct_fits : (t : DataType) (values : Option (List Datum)) → IsStruct t → IfSome values (AreItemsOf (struct_members t)) → IfSome (option_map struct_row values) (Fits t)
struct_fits (struct_type ms n) None is each = tt
struct_fits (struct_type ms n) (Some values) is each = each
struct_fits (bool_type n) values is each = absurd is
struct_fits (int_type kind n) values is each = absurd is
struct_fits (utf8_type n) values is each = absurd is
struct_fits (list_type t n) values is each = absurd is

null_struct_fits : (t : DataType) → IsStruct t → nullability_of t ≡ Nullable → Fits t null
null_struct_fits (struct_type ms Nullable) is e = tt
null_struct_fits (struct_type ms NonNullable) is e = absurd cc
null_struct_fits (bool_type n) is e = absurd is
null_struct_fits (int_type kind n) is e = absurd is
null_struct_fits (utf8_type n) is e = absurd is
null_struct_fits (list_type t n) is e = absurd is

valid_fits_by : (P : Datum → Type 0) (v validity : Datum) → P null → P v → IfSome (where_valid v validity) P
valid_fits_by P v null h k = k
valid_fits_by P v (truth true) h k = k
valid_fits_by P v (truth false) h k = h
valid_fits_by P v (number z) h k = k
valid_fits_by P v (text bytes) h k = k
valid_fits_by P v (structure vs) h k = k

valid_fits : (P : Datum → Type 0) (d validity : Option Datum) → P null → IfSome d P → IfSome (on_both where_valid d validity) P
valid_fits P None validity h k = tt
valid_fits P (Some v) None h k = tt
valid_fits P (Some v) (Some validity) h k = valid_fits_by P v validity h k

-- a validity stands only where nulls are taken
validity_fits : (leaves : Leaves) (n : Nullability) (rows : ℕ) (validity : Validity) (row : ℕ) (d : Derivation) (P : Datum → Type 0) → IsValidity n rows validity → (n ≡ Nullable → P null) → IfSome (derived leaves d) P → IfSome (derived leaves (where_valid_by validity row d)) P
validity_fits leaves n rows always row d P sound h k = k
validity_fits leaves NonNullable rows (valid_by validity) row d P sound h k = absurd sound
validity_fits leaves Nullable rows (valid_by validity) row d P sound h k = valid_fits P (derived leaves d) (derived leaves (derivation validity all row)) (h refl) k

chunk_fits : (b : Bool) (leaves : Leaves) (P : Datum → Type 0) (d e : Derivation) → IfSome (derived leaves d) P → IfSome (derived leaves e) P → IfSome (derived leaves (cond b d e)) P
chunk_fits true leaves P d e h k = h
chunk_fits false leaves P d e h k = k

rows_fit : (leaves : Leaves) (P : Datum → Type 0) (f : ℕ → Derivation) (from count : ℕ) → ((row : ℕ) → IfSome (derived leaves (f row)) P) → IfSome (derived_each leaves (each_row f from count)) (AllByRecursion P)
rows_fit leaves P f from zero fit = tt
rows_fit leaves P f from (suc count) fit = more_fits P (derived leaves (f from)) (derived_each leaves (each_row f (from + 1) count)) (fit from) (rows_fit leaves P f (from + 1) count fit)

-- ---- trees

abbrev Fitting : Leaves → DataType → Derivation → Type 0
Fitting leaves t d = IfSome (derived leaves d) (Fits t)

mutual
  pub fits_row : (leaves : Leaves) → GiveFitting leaves → (t : Tree) (row : ℕ) → IsSound t → IfSome (derived leaves (derivation t all row)) (Fits (head_of t).dtype)
  fits_row leaves fitting (missing head) row sound = tt
  fits_row leaves fitting (leaf head segment coding) row sound = leaf_row_fits (Fits head.dtype) (leaves head.dtype coding head.rows segment) row (fitting head.dtype coding head.rows segment)
  fits_row leaves fitting (chunks head forest) row sound = fits_in leaves fitting head.dtype forest row sound.0
  fits_row leaves fitting (fields head forest validity) row sound =
      validity_fits leaves (nullability_of head.dtype) head.rows validity row (packed (field_derivations (struct_members head.dtype) forest all row)) (Fits head.dtype) sound.2
      (λ e. null_struct_fits head.dtype sound.0 e)
      (struct_fits head.dtype (derived_each leaves (field_derivations (struct_members head.dtype) forest all row)) sound.0 (fits_fields leaves fitting (struct_members head.dtype) head.rows forest row sound.1))
  fits_row leaves fitting (dict head values codes) row sound =
      subst (λ (t : DataType). IfSome (derived leaves (derivation (dict head values codes) all row)) (Fits t)) (sym sound.2.dtype)
      (looked_up_fits (head_of codes).dtype (head_of values).dtype (derived_each leaves (each_row (derivation values all) 0 (head_of values).rows)) (derived leaves (derivation codes all row)) sound.2.unsigned
      (rows_fit leaves (Fits (head_of values).dtype) (derivation values all) 0 (head_of values).rows (λ r. fits_row leaves fitting values r sound.0))
      (fits_row leaves fitting codes row sound.1))
  fits_row leaves fitting (lists head elements offsets validity) row sound = tt
  fits_row leaves fitting (zoned head zones content table) row sound =
      subst (λ (t : DataType). Fitting leaves t (derivation content all row)) sound.1.dtype (fits_row leaves fitting content row sound.0)

  fits_in : (leaves : Leaves) → GiveFitting leaves → (t : DataType) (forest : Forest) (row : ℕ) → AreChunks t forest → IfSome (derived leaves (derivation_in forest all row)) (Fits t)
  fits_in leaves fitting t no_trees row sound = tt
  fits_in leaves fitting t (tree first rest) row sound =
      chunk_fits (ltb row (head_of first).rows) leaves (Fits t) (derivation first all row) (derivation_in rest all (row - (head_of first).rows))
      (subst (λ (s : DataType). Fitting leaves s (derivation first all row)) sound.1 (fits_row leaves fitting first row sound.0))
      (fits_in leaves fitting t rest (row - (head_of first).rows) sound.2)

  fits_fields : (leaves : Leaves) → GiveFitting leaves → (ms : Members) (rows : ℕ) (forest : Forest) (row : ℕ) → AreFields ms rows forest → IfSome (derived_each leaves (field_derivations ms forest all row)) (AreItemsOf ms)
  fits_fields leaves fitting no_members rows forest row sound = tt
  fits_fields leaves fitting (member name t ms) rows no_trees row sound = absurd sound
  fits_fields leaves fitting (member name t ms) rows (tree first rest) row sound =
      item_fits name t ms (derived leaves (derivation first all row)) (derived_each leaves (field_derivations ms rest all row))
      (subst (λ (s : DataType). Fitting leaves s (derivation first all row)) sound.1.dtype (fits_row leaves fitting first row sound.0))
      (fits_fields leaves fitting ms rows rest row sound.2)

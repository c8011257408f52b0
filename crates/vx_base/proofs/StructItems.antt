-- The values of structs, in their parts.
use Rattle.std.proofs.Common.{◌≡◌, ℕ, zero, suc, ◌<◌, ◌≤◌, List, [], ◌∷◌, length, map, get_or, Option, Some, refl, sym, ap, ◌∙◌, arith}
use Rattle.std.specs.List.{slice_get}
use Rattle.std.proofs.lemmas.List.{length-map}
use Rattle.vx_arrays.specs.Cells.{struct_at}
use Rattle.vx_types.specs.Data.{Datum, null, structure, Items, no_items, item}
use Rattle.vx_types.specs.ValueViews.{data_in}
use Rattle.vx_types.proofs.Items.{some_datum}
use Rattle.vx_arrays.specs.Fields.{field_at, first_item, items_behind}

-- what an item at a place is
item_is : (place : ℕ) (vs : Items) (v : Datum) → slice_get (data_in vs) place ≡ some_datum v → first_item (items_behind place vs) ≡ v
item_is place no_items v e = absurd cc
item_is zero (item w vs) v e = cc
item_is (suc place) (item w vs) v e = item_is place vs v e

struct_here : (rows : List Items) (row : ℕ) (vs : Items) → slice_get rows row ≡ Some vs → struct_at rows row ≡ structure vs
struct_here [] row vs e = absurd cc
struct_here (us ∷ rows) zero vs e = ap structure cc
struct_here (us ∷ rows) (suc row) vs e = struct_here rows row vs e

-- each row has a value in the part of a place
abbrev pub column_at : ℕ → List Items → List (Option Datum)
column_at place rows = map (λ (vs : Items). slice_get (data_in vs) place) rows

pub part_inside : (rows : List Items) (values : List Datum) (place row : ℕ) → column_at place rows ≡ map some_datum values → row < length rows → row < length values
part_inside rows values place row e lt = omega (arith, length-map rows (λ (vs : Items). slice_get (data_in vs) place), length-map values some_datum, ap length e)

pub part_value : (rows : List Items) (values : List Datum) (place row : ℕ) (v : Datum) → column_at place rows ≡ map some_datum values → slice_get values row ≡ Some v → field_at place (struct_at rows row) ≡ v
part_value [] [] place row v e at = absurd cc
part_value [] (w ∷ values) place row v e at = absurd cc
part_value (vs ∷ rows) [] place row v e at = absurd cc
part_value (vs ∷ rows) (w ∷ values) place zero v e at = item_is place vs v (cc)
part_value (vs ∷ rows) (w ∷ values) place (suc row) v e at = part_value rows values place row v (cc) at

pub items_value : (rows : List Items) (row place : ℕ) (vs ws : Items) → slice_get rows row ≡ Some vs → ws ≡ vs → field_at place (structure ws) ≡ field_at place (struct_at rows row)
items_value rows row place vs ws at e = ap (λ (us : Items). field_at place (structure us)) e ∙ ap (field_at place) (sym (struct_here rows row vs at))

-- ---- the struct of a row
pub struct_found : (rows : List Items) (row : ℕ) → row < length rows → struct_at rows row ≡ structure (get_or rows row no_items)
struct_found [] row lt = absurd (omega arith)
struct_found (vs ∷ rows) zero lt = refl
struct_found (vs ∷ rows) (suc row) lt = struct_found rows row (omega arith)

pub struct_past : (rows : List Items) (row : ℕ) → length rows ≤ row → struct_at rows row ≡ null
struct_past [] row past = refl
struct_past (vs ∷ rows) zero past = absurd (omega arith)
struct_past (vs ∷ rows) (suc row) past = struct_past rows row (omega arith)

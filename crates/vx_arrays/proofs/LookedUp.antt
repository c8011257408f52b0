-- Values that are looked up by their codes.
use Rattle.vx_types.specs.Columns.{ColumnData}
use Rattle.vx_types.specs.Fits.{Fits, nullability_of}
use Rattle.vx_types.proofs.BuiltRows.{all_found_fit}
use Rattle.vx_arrays.specs.PackedColumns.{IsColumn}
use Rattle.vx_arrays.specs.ArrayRows.{picked_at}
use Rattle.vx_arrays.proofs.PackedRows.{bare_where}
use Rattle.std.proofs.Common.{◌≡◌, ℕ, zero, suc, min, ℤ, pos, negsuc, Bool, true, false, cond, List, [], ◌∷◌, length, map, get_or, refl, sym, ap, subst, ◌∙◌, arith}
use Rattle.std.specs.List.{AllByRecursion}
use Rattle.vx_types.specs.Data.{DataType, Datum, null, truth, number, text, structure}
use Rattle.vx_types.specs.ColumnCalls.{nullable_where, IsUnsigned, IsCodeBelow, value_at}
use Rattle.vx_types.specs.Slots.{where_valid}
use Rattle.vx_arrays.specs.LookUps.{code_place, code_places}
use Rattle.vx_arrays.specs.Places.{place_in, places_in}
use Rattle.vx_masks.specs.Rows.{taken, NullsHold}

-- ---- places of codes
place_of_code : (past : ℕ) (bit : Bool) (z : ℤ) → place_in past bit z ≡ code_place past (cond bit (number z) null)
place_of_code past true (pos n) = refl
place_of_code past true (negsuc n) = refl
place_of_code past false (pos n) = refl
place_of_code past false (negsuc n) = refl

pub places_of_codes : (past : ℕ) (mask : List Bool) (zs : List ℤ) → places_in past mask zs ≡ code_places past (where_valid mask (map number zs))
places_of_codes past [] zs = refl
places_of_codes past (bit ∷ mask) [] = refl
places_of_codes past (bit ∷ mask) (z ∷ zs) = λ i. place_of_code past bit z i ∷ places_of_codes past mask zs i

-- ---- the values at them
at_least : {X : Type 0} (blank : X) (xs : List X) (n : ℕ) → get_or xs (min n (length xs)) blank ≡ get_or xs n blank
at_least blank [] n = refl
at_least blank (x ∷ xs) zero =
    let none : min zero (suc (length xs)) ≡ zero = omega arith in
    ap (λ (k : ℕ). get_or (x ∷ xs) k blank) none
at_least blank (x ∷ xs) (suc n) =
    let less : min (suc n) (suc (length xs)) ≡ suc (min n (length xs)) = omega arith in
    ap (λ (k : ℕ). get_or (x ∷ xs) k blank) less ∙ at_least blank xs n

past_last : {X : Type 0} (blank : X) (xs : List X) → get_or xs (length xs) blank ≡ blank
past_last blank [] = refl
past_last blank (x ∷ xs) = past_last blank xs

code_value : (values : List Datum) (code : Datum) → value_at values code ≡ get_or values (code_place (length values) code) null
code_value values (number (pos n)) = sym (at_least null values n)
code_value values (number (negsuc n)) = sym (past_last null values)
code_value values null = sym (past_last null values)
code_value values (truth b) = sym (past_last null values)
code_value values (text t) = sym (past_last null values)
code_value values (structure vs) = sym (past_last null values)

pub codes_values : (values codes : List Datum) → map (value_at values) codes ≡ taken null values (code_places (length values) codes)
codes_values values [] = refl
codes_values values (code ∷ codes) = λ i. code_value values code i ∷ codes_values values codes i

-- ---- taken rows
row_taken : (blank : Datum) (mask : List Bool) (values : List Datum) (place : ℕ) → length mask ≡ length values → get_or (where_valid mask values) place null ≡ cond (get_or mask place false) (get_or values place blank) null
row_taken blank [] values place e = refl
row_taken blank (bit ∷ mask) [] place e = absurd (omega arith)
row_taken blank (bit ∷ mask) (v ∷ values) zero e = refl
row_taken blank (bit ∷ mask) (v ∷ values) (suc place) e = row_taken blank mask values place (omega arith)

pub taken-where_valid : (blank : Datum) (mask : List Bool) (values : List Datum) (places : List ℕ) → length mask ≡ length values → where_valid (taken false mask places) (taken blank values places) ≡ taken null (where_valid mask values) places
taken-where_valid blank mask values [] e = refl
taken-where_valid blank mask values (place ∷ places) e = λ i. sym (row_taken blank mask values place e) i ∷ taken-where_valid blank mask values places e i

blank_taken : (blank : Datum) (mask : List Bool) (values : List Datum) (place : ℕ) → length mask ≡ length values → NullsHold blank mask values → get_or mask place false ≡ false → get_or values place blank ≡ blank
blank_taken blank [] [] place e h f = refl
blank_taken blank (bit ∷ mask) [] place e h f = refl
blank_taken blank [] (v ∷ values) place e h f = absurd (omega arith)
blank_taken blank (true ∷ mask) (v ∷ values) zero e h f = absurd cc
blank_taken blank (false ∷ mask) (v ∷ values) zero e h f = h.0
blank_taken blank (true ∷ mask) (v ∷ values) (suc place) e h f = blank_taken blank mask values place (omega arith) h f
blank_taken blank (false ∷ mask) (v ∷ values) (suc place) e h f = blank_taken blank mask values place (omega arith) h.1 f

held_cons : (blank : Datum) (bit : Bool) (v : Datum) (mask : List Bool) (values : List Datum) → (bit ≡ false → v ≡ blank) → NullsHold blank mask values → NullsHold blank (bit ∷ mask) (v ∷ values)
held_cons blank true v mask values f h = h
held_cons blank false v mask values f h = (f refl, h)

pub taken-NullsHold : (blank : Datum) (mask : List Bool) (values : List Datum) (places : List ℕ) → length mask ≡ length values → NullsHold blank mask values → NullsHold blank (taken false mask places) (taken blank values places)
taken-NullsHold blank mask values [] e h = tt
taken-NullsHold blank mask values (place ∷ places) e h = held_cons blank (get_or mask place false) (get_or values place blank) (taken false mask places) (taken blank values places) (blank_taken blank mask values place e h) (taken-NullsHold blank mask values places e h)

pub length-taken : {X Y : Type 0} (a : X) (b : Y) (xs : List X) (ys : List Y) (places : List ℕ) → length (taken a xs places) ≡ length (taken b ys places)
length-taken a b xs ys [] = refl
length-taken a b xs ys (place ∷ places) = omega (arith, length-taken a b xs ys places)

-- ---- what was looked up is a column
pub found_values : (rows others : ColumnData) (codes : List Datum) (places : List ℕ) → places ≡ code_places (length rows.values) codes → others ≡ picked_at places rows → others.values ≡ map (value_at rows.values) codes
found_values rows others codes places at is = ap (λ (c : ColumnData). c.values) is ∙ ap (taken null rows.values) at ∙ sym (codes_values rows.values codes)

pub column_found : (s t u : DataType) (rows others : ColumnData) (codes : List Datum) (places : List ℕ) → IsColumn t rows → IsUnsigned s → AllByRecursion (Fits s) codes → AllByRecursion (IsCodeBelow (length rows.values)) codes
    → places ≡ code_places (length rows.values) codes → others ≡ picked_at places rows → u ≡ nullable_where (nullability_of s) t → IsColumn u others
column_found s t u rows others codes places h unsigned fit below at is type =
    let values = found_values rows others codes places at is in
    subst (λ (r : DataType). IsColumn r others) (sym type) (record {
      shape = bare_where (nullability_of s) t ∙ h.shape ∙ sym (ap (λ (c : ColumnData). c.dtype) is);
      fit = subst (λ (vs : List Datum). AllByRecursion (Fits (nullable_where (nullability_of s) t)) vs) (sym values) (all_found_fit s t rows.values codes unsigned h.fit fit below);
    })

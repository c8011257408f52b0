-- Arrays that are looked at where they stand.
use Rattle.std.proofs.Common.{◌≡◌, ℕ, zero, suc, ◌<◌, ◌≤◌, Bool, true, false, List, [], ◌∷◌, length, map, get_or, Option, Some, None, Bor, refl, sym, ap, subst, ◌∙◌, arith}
use Rattle.std.specs.Prelude.{◌↔◌, slice_get, IfSome, IsSome}
use Rattle.std.specs.Slice.{IsItemAt}
use Rattle.std.proofs.lemmas.List.{length-map}
use Rattle.vx_types.specs.Columns.{ColumnData}
use Rattle.vx_types.specs.Data.{Datum, truth, number, text, structure, Items}
use Rattle.vx_types.specs.Names.{names_in}
use Rattle.vx_types.specs.ValueViews.{data_in}
use Rattle.vx_masks.specs.Rows.{NullsHold}
use Rattle.vx_arrays.specs.declared.arrays.Buffers.{Buffers}
use Rattle.vx_arrays.specs.declared.arrays.Buffers.TheVariants as variants
use Rattle.vx_arrays.specs.declared.numbers.Numbers.{Numbers}
use Rattle.vx_arrays.specs.Numbers.{numbers_in}
use Rattle.vx_arrays.specs.ArrayRows.{beside, members_in, rows_of, StructRows, struct_rows, HaveRows}
use Rattle.vx_arrays.specs.Buffers.{IsArray}
use Rattle.vx_arrays.proofs.ArrayRows.{struct_len}

-- ---- buffers
held_truths : (mask bits : List Bool) → NullsHold (truth false) mask (map truth bits) → NullsHold false mask bits
held_truths [] bits h = tt
held_truths (true ∷ mask) [] h = tt
held_truths (false ∷ mask) [] h = tt
held_truths (true ∷ mask) (bit ∷ bits) h = held_truths mask bits h
held_truths (false ∷ mask) (bit ∷ bits) h = let e = h.0 in (cc, held_truths mask bits h.1)

pub view_truths : (mask bits : List Bool) (buffers : Buffers) → IsArray mask buffers → buffers ≡ variants.Truths bits → (length mask ≡ length bits) × NullsHold false mask bits
view_truths mask bits buffers h e =
    let whole : IsArray mask (variants.Truths bits) = subst (λ (s : Buffers). IsArray mask s) e h in
    (whole.rows ∙ length-map bits truth, held_truths mask bits whole.held)

pub view_numbers : (mask : List Bool) (numbers : Numbers) (buffers : Buffers) → IsArray mask buffers → buffers ≡ variants.Numbers numbers → length mask ≡ length (numbers_in numbers)
view_numbers mask numbers buffers h e =
    let whole : IsArray mask (variants.Numbers numbers) = subst (λ (s : Buffers). IsArray mask s) e h in
    whole.rows ∙ length-map (numbers_in numbers) number

pub view_texts : (mask : List Bool) (texts : List (List ℕ)) (buffers : Buffers) → IsArray mask buffers → buffers ≡ variants.Texts texts → length mask ≡ length texts
view_texts mask texts buffers h e =
    let whole : IsArray mask (variants.Texts texts) = subst (λ (s : Buffers). IsArray mask s) e h in
    whole.rows ∙ length-map texts text

pub view_structs : (mask : List Bool) (structs : StructRows) (buffers : Buffers) → IsArray mask buffers → buffers ≡ variants.Structs structs → length mask ≡ length structs.rows
view_structs mask structs buffers h e =
    let whole : IsArray mask (variants.Structs structs) = subst (λ (s : Buffers). IsArray mask s) e h in
    whole.rows ∙ length-map structs.rows structure

pub view_lists : (mask bits : List Bool) (buffers : Buffers) → IsArray mask buffers → buffers ≡ variants.Lists bits → length mask ≡ length bits
view_lists mask bits buffers h e =
    let whole : IsArray mask (variants.Lists bits) = subst (λ (s : Buffers). IsArray mask s) e h in
    whole.rows ∙ length-map bits truth

-- ---- an array among arrays
first_items : (values : List Datum) (rows : List Items) → length values ≡ length rows → map (λ vs. slice_get (data_in vs) zero) (beside values rows) ≡ map Some values
first_items [] rows e = refl
first_items (v ∷ values) [] e = absurd (omega arith)
first_items (v ∷ values) (vs ∷ rows) e = ap (λ (rest : List (Option Datum)). Some v ∷ rest) (first_items values rows (omega arith))

later_items : (i : ℕ) (values : List Datum) (rows : List Items) → length values ≡ length rows → map (λ vs. slice_get (data_in vs) (suc i)) (beside values rows) ≡ map (λ vs. slice_get (data_in vs) i) rows
later_items i [] [] e = refl
later_items i [] (vs ∷ rows) e = absurd (omega arith)
later_items i (v ∷ values) [] e = absurd (omega arith)
later_items i (v ∷ values) (vs ∷ rows) e = ap (λ (rest : List (Option Datum)). slice_get (data_in vs) i ∷ rest) (later_items i values rows (omega arith))

items_there : (rows : ℕ) (arrays : List ColumnData) (i : ℕ) (array : ColumnData) → i < length arrays → array ≡ get_or arrays i array → HaveRows rows arrays → map (λ vs. slice_get (data_in vs) i) (rows_of rows arrays) ≡ map Some array.values
items_there rows [] i array lt e h = absurd (omega arith)
items_there rows (one ∷ arrays) zero array lt e h = first_items one.values (rows_of rows arrays) (h.0 ∙ sym (struct_len rows arrays h.1)) ∙ ap (λ (p : ColumnData). map Some p.values) (sym e)
items_there rows (one ∷ arrays) (suc i) array lt e h = later_items i one.values (rows_of rows arrays) (h.0 ∙ sym (struct_len rows arrays h.1)) ∙ items_there rows arrays i array (omega arith) e h.1

pub array_there : (rows : ℕ) (arrays items : List ColumnData) (structs : StructRows) (i : ℕ) (r : Option (Bor ColumnData)) → items ≡ arrays → struct_rows rows arrays ≡ structs → HaveRows rows arrays → IsItemAt items i r
    → IfSome r (λ array. map (λ vs. slice_get (data_in vs) i) structs.rows ≡ map Some array.now.values)
array_there rows arrays items structs i None e view h at = tt
array_there rows arrays items structs i (Some x) e view h at =
    let here = items_there rows items i x.now at.3.0 at.1 (subst (λ (ps : List ColumnData). HaveRows rows ps) (sym e) h) in
    ap (λ (s : StructRows). map (λ vs. slice_get (data_in vs) i) s.rows) (sym view) ∙ ap (λ (ps : List ColumnData). map (λ vs. slice_get (data_in vs) i) (rows_of rows ps)) (sym e) ∙ here

-- ---- how many arrays there are
member_count : (arrays : List ColumnData) → length (names_in (members_in arrays)) ≡ length arrays
member_count [] = refl
member_count (array ∷ arrays) = ap suc (member_count arrays)

pub place_there : (rows : ℕ) (arrays items : List ColumnData) (structs : StructRows) (i : ℕ) (r : Option (Bor ColumnData)) → items ≡ arrays → struct_rows rows arrays ≡ structs → IsItemAt items i r → IsSome r ↔ (i < length (names_in structs.members))
place_there rows arrays items structs i r e view at =
    let count : length (names_in structs.members) ≡ length items = ap (λ (s : StructRows). length (names_in s.members)) (sym view) ∙ member_count arrays ∙ ap length (sym e) in
    by r at count
  where
    by : (r : Option (Bor ColumnData)) → IsItemAt items i r → length (names_in structs.members) ≡ length items → IsSome r ↔ (i < length (names_in structs.members))
    by None at count =
        let past : length items ≤ i = at.3 in
        (λ h. absurd cc, λ l. absurd (omega (arith, past, count, l)))
    by (Some x) at count =
        let there : i < length items = at.3.0 in
        (λ h. omega (arith, there, count), λ l. refl)

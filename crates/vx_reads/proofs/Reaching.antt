-- A segment that is needed is reached by a row of the range.
use Rattle.std.proofs.Common.{◌≡◌, ℕ, zero, suc, ◌+◌, ◌-◌, ◌<◌, ◌⊎◌, inl, inr, ⊎_elim, Bool, true, false, cond, List, [], ◌∷◌, ◌++◌, Some, length, take, drop, replicate, refl, sym, subst, arith}
use Rattle.std.specs.List.{slice_get}
use Rattle.std.proofs.lemmas.List.{length-drop, length-replicate, length-take}
use Rattle.vx_layout.specs.Kept.{all}
use Rattle.vx_base.specs.Data.{DataType, Members, no_members, member}
use Rattle.vx_layout.specs.Rows.{derivation, derivation_in, field_derivations, struct_members, where_valid_by}
use Rattle.vx_layout.specs.Trees.{Tree, missing, leaf, chunks, fields, dict, lists, zoned, Forest, no_trees, tree, Validity, always, valid_by, head_of}
use Rattle.vx_layout.proofs.TreeRows.{row_first, row_later}
use Rattle.vx_rows.specs.Derivations.{Derivation, packed}
use Rattle.vx_rows.specs.Heads.{Head}
use Rattle.vx_rows.specs.Reads.{directly, reads_of, reads_of_each, Finds, IsIn}
use Rattle.vx_rows.proofs.ReadRows.{any_left, any_right, Meets}
use Rattle.vx_reads.specs.Computed.{RangeFinds}
use Rattle.vx_reads.specs.Needed.{needed, needed_in, needed_of_fields}
use Rattle.vx_picking.specs.Rows.{selects_some}
use Rattle.vx_reads.proofs.Computing.{codes_fail, values_fail}
use Rattle.vx_picking.proofs.SelectedRows.{some_long}

abbrev IsOneOf : ℕ → List ℕ → Type 0
IsOneOf segment segments = (place : ℕ) × (slice_get segments place ≡ Some segment)

one_of_both : (segment : ℕ) (xs ys : List ℕ) (place : ℕ) → slice_get (xs ++ ys) place ≡ Some segment → IsOneOf segment xs ⊎ IsOneOf segment ys
one_of_both segment [] ys place at = inr (place, at)
one_of_both segment (x ∷ xs) ys zero at = inl (zero, at)
one_of_both segment (x ∷ xs) ys (suc place) at = by (one_of_both segment xs ys place at)
  where
    by : IsOneOf segment xs ⊎ IsOneOf segment ys → IsOneOf segment (x ∷ xs) ⊎ IsOneOf segment ys
    by (inl one) = inl (suc one.0, one.1)
    by (inr one) = inr one

one_of_some : (segment : ℕ) (b : Bool) (xs : List ℕ) (place : ℕ) → slice_get (cond b xs []) place ≡ Some segment → (b ≡ true) × IsOneOf segment xs
one_of_some segment true xs place at = (refl, (place, at))
one_of_some segment false xs place at = absurd cc

here : (first : Tree) (rest : Forest) (start : ℕ) (bits : List Bool) (segment : ℕ) → RangeFinds (IsIn segment) (derivation first all) start (length (take ((head_of first).rows - start) bits)) → RangeFinds (IsIn segment) (derivation_in (tree first rest) all) start (length bits)
here first rest start bits segment finds =
    let long = length-take ((head_of first).rows - start) bits in
    (finds.0, omega (arith, finds.1, long), subst (λ (d : Derivation). Finds (IsIn segment) (reads_of directly d)) (sym (row_first first rest all (start + finds.0) (omega (arith, finds.1, long)))) finds.2)

behind : (first : Tree) (rest : Forest) (start : ℕ) (bits : List Bool) (segment : ℕ) → RangeFinds (IsIn segment) (derivation_in rest all) (start - (head_of first).rows) (length (drop ((head_of first).rows - start) bits)) → RangeFinds (IsIn segment) (derivation_in (tree first rest) all) start (length bits)
behind first rest start bits segment finds =
    let long = length-drop ((head_of first).rows - start) bits in
    ((head_of first).rows - start + finds.0, omega (arith, finds.1, long), subst (λ (d : Derivation). Finds (IsIn segment) (reads_of directly d)) (sym (row_later first rest all (start + ((head_of first).rows - start + finds.0)) (start - (head_of first).rows + finds.0) (omega arith))) finds.2)

-- the row of some field reaches the segment
abbrev FieldsFind : ℕ → Members → Forest → ℕ → ℕ → Type 0
FieldsFind segment ms forest start count = (place : ℕ) × (place < count) × Finds (IsIn segment) (reads_of_each directly (field_derivations ms forest all (start + place)))

first_finds : (name : List ℕ) (t : DataType) (ms : Members) (first : Tree) (rest : Forest) (segment start count : ℕ) → RangeFinds (IsIn segment) (derivation first all) start count → FieldsFind segment (member name t ms) (tree first rest) start count
first_finds name t ms first rest segment start count finds =
    (finds.0, finds.1, any_left (Meets (IsIn segment)) (reads_of directly (derivation first all (start + finds.0))) (reads_of_each directly (field_derivations ms rest all (start + finds.0))) finds.2)

later_finds : (name : List ℕ) (t : DataType) (ms : Members) (first : Tree) (rest : Forest) (segment start count : ℕ) → FieldsFind segment ms rest start count → FieldsFind segment (member name t ms) (tree first rest) start count
later_finds name t ms first rest segment start count finds =
    (finds.0, finds.1, any_right (Meets (IsIn segment)) (reads_of directly (derivation first all (start + finds.0))) (reads_of_each directly (field_derivations ms rest all (start + finds.0))) finds.2)

-- what the fields read, the struct reads
valid_finds : (validity : Validity) (row : ℕ) (d : Derivation) (segment : ℕ) → Finds (IsIn segment) (reads_of directly d) → Finds (IsIn segment) (reads_of directly (where_valid_by validity row d))
valid_finds always row d segment finds = finds
valid_finds (valid_by validity) row d segment finds = any_left (Meets (IsIn segment)) (reads_of directly d) (reads_of directly (derivation validity all row)) finds

struct_finds : (head : Head) (forest : Forest) (validity : Validity) (segment start count : ℕ) → FieldsFind segment (struct_members head.dtype) forest start count → RangeFinds (IsIn segment) (derivation (fields head forest validity) all) start count
struct_finds head forest validity segment start count finds =
    (finds.0, finds.1, valid_finds validity (start + finds.0) (packed (field_derivations (struct_members head.dtype) forest all (start + finds.0))) segment finds.2)

mutual
  pub needed_reached : (t : Tree) (start : ℕ) (bits : List Bool) (segment place : ℕ) → slice_get (needed t start bits) place ≡ Some segment → RangeFinds (IsIn segment) (derivation t all) start (length bits)
  needed_reached (missing head) start bits segment place at = absurd cc
  needed_reached (leaf head other coding) start [] segment place at = absurd cc
  needed_reached (leaf head other coding) start (bit ∷ bits) segment zero at = (0, omega arith, inl (let e : other ≡ segment = cc in e))
  needed_reached (leaf head other coding) start (bit ∷ bits) segment (suc place) at = absurd cc
  needed_reached (chunks head forest) start bits segment place at = needed_reached_in forest start bits segment place at
  needed_reached (fields head forest validity) start bits segment place at =
      struct_finds head forest validity segment start (length bits) (needed_reached_fields (struct_members head.dtype) forest start bits segment place at)
  needed_reached (dict head values codes) start bits segment place at =
      let some = one_of_some segment (selects_some bits) (needed codes start bits ++ needed values 0 (replicate (head_of values).rows true)) place at in
      ⊎_elim (λ (one : IsOneOf segment (needed codes start bits)). codes_fail head values codes start (length bits) (IsIn segment) (needed_reached codes start bits segment one.0 one.1))
      (λ (one : IsOneOf segment (needed values 0 (replicate (head_of values).rows true))). values_fail head values codes start (length bits) (length (replicate (head_of values).rows true)) (omega (arith, length-replicate (head_of values).rows true)) (some_long bits some.0) (IsIn segment) (needed_reached values 0 (replicate (head_of values).rows true) segment one.0 one.1))
      (one_of_both segment (needed codes start bits) (needed values 0 (replicate (head_of values).rows true)) some.1.0 some.1.1)
  needed_reached (lists head elements offsets validity) start bits segment place at = absurd cc
  needed_reached (zoned head zones content table) start bits segment place at = needed_reached content start bits segment place at

  pub needed_reached_in : (forest : Forest) (start : ℕ) (bits : List Bool) (segment place : ℕ) → slice_get (needed_in forest start bits) place ≡ Some segment → RangeFinds (IsIn segment) (derivation_in forest all) start (length bits)
  needed_reached_in no_trees start bits segment place at = absurd cc
  needed_reached_in (tree first rest) start bits segment place at =
      ⊎_elim (λ (one : IsOneOf segment (cond (selects_some (take ((head_of first).rows - start) bits)) (needed first start (take ((head_of first).rows - start) bits)) [])).
      (let some = one_of_some segment (selects_some (take ((head_of first).rows - start) bits)) (needed first start (take ((head_of first).rows - start) bits)) one.0 one.1 in
      here first rest start bits segment (needed_reached first start (take ((head_of first).rows - start) bits) segment some.1.0 some.1.1)))
      (λ (one : IsOneOf segment (needed_in rest (start - (head_of first).rows) (drop ((head_of first).rows - start) bits))).
      behind first rest start bits segment (needed_reached_in rest (start - (head_of first).rows) (drop ((head_of first).rows - start) bits) segment one.0 one.1))
      (one_of_both segment (cond (selects_some (take ((head_of first).rows - start) bits)) (needed first start (take ((head_of first).rows - start) bits)) []) (needed_in rest (start - (head_of first).rows) (drop ((head_of first).rows - start) bits)) place at)

  needed_reached_fields : (ms : Members) (forest : Forest) (start : ℕ) (bits : List Bool) (segment place : ℕ) → slice_get (needed_of_fields ms forest start bits) place ≡ Some segment → FieldsFind segment ms forest start (length bits)
  needed_reached_fields no_members forest start bits segment place at = absurd cc
  needed_reached_fields (member name t ms) no_trees start bits segment place at = absurd cc
  needed_reached_fields (member name t ms) (tree first rest) start bits segment place at =
      ⊎_elim (λ (one : IsOneOf segment (needed first start bits)). first_finds name t ms first rest segment start (length bits) (needed_reached first start bits segment one.0 one.1))
      (λ (one : IsOneOf segment (needed_of_fields ms rest start bits)). later_finds name t ms first rest segment start (length bits) (needed_reached_fields ms rest start bits segment one.0 one.1))
      (one_of_both segment (needed first start bits) (needed_of_fields ms rest start bits) place at)

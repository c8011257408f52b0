-- Each segment that a pruning evaluation needs is read by what is told of zones over a selected row.
use Rattle.std.proofs.Common.{◌≡◌, ℕ, zero, suc, ◌+◌, ◌-◌, ◌⊎◌, inl, inr, ⊎_elim, Bool, true, false, cond, List, [], ◌∷◌, ◌++◌, Some, take, drop, replicate, refl, sym, ◌∙◌, subst, arith}
use Rattle.std.specs.List.{slice_get}
use Rattle.std.proofs.lemmas.List.{length-replicate}
use Rattle.vx_layout.specs.Kept.{all}
use Rattle.vx_layout.specs.Rows.{derivation}
use Rattle.vx_layout.specs.Trees.{Tree, missing, leaf, chunks, fields, dict, lists, zoned, Forest, no_trees, tree, head_of}
use Rattle.vx_rows.specs.Reads.{AnyOf, IsIn}
use Rattle.vx_picking.specs.Rows.{selects_some}
use Rattle.vx_picking.proofs.SelectedRows.{dropped_at}
use Rattle.vx_reads.specs.Computed.{RangeFinds}
use Rattle.vx_reads.specs.Needed.{needed}
use Rattle.vx_reads.proofs.Reaching.{needed_reached}
use Rattle.vx_readers.specs.ZonesNeeded.{zones_needed, zones_needed_in, IsToldIn}
use Rattle.vx_readers.specs.ZonesOver.{zones_over, zones_over_in, ZoneOver}
use Rattle.vx_readers.proofs.PruningFaults.{first_selected, taken_there}
use Rattle.vx_readers.proofs.ZonesAlike.{zones_first, zones_later}

abbrev IsOneOf : ℕ → List ℕ → Type 0
IsOneOf segment segments = (place : ℕ) × (slice_get segments place ≡ Some segment)

one_of_both : (segment : ℕ) (xs ys : List ℕ) (place : ℕ) → slice_get (xs ++ ys) place ≡ Some segment → IsOneOf segment xs ⊎ IsOneOf segment ys
one_of_both segment [] ys place at = inr (place, at)
one_of_both segment (x ∷ xs) ys zero at = inl (zero, at)
one_of_both segment (x ∷ xs) ys (suc place) at = by (one_of_both segment xs ys place at)
  where
    by : IsOneOf segment xs ⊎ IsOneOf segment ys → IsOneOf segment (x ∷ xs) ⊎ IsOneOf segment ys
    by (inl one) = inl (suc one.0, one.1)
    by (inr one) = inr one

one_of_some : (segment : ℕ) (b : Bool) (xs : List ℕ) (place : ℕ) → slice_get (cond b xs []) place ≡ Some segment → (b ≡ true) × IsOneOf segment xs
one_of_some segment true xs place at = (refl, (place, at))
one_of_some segment false xs place at = absurd cc

-- some selected row has zones over it that are told so
abbrev Reaches : ℕ → (ℕ → List ZoneOver) → ℕ → List Bool → Type 0
Reaches segment zones start bits = (row : ℕ) × (slice_get bits row ≡ Some true) × AnyOf (IsToldIn segment) (zones (start + row))

here : (first : Tree) (rest : Forest) (start : ℕ) (bits : List Bool) (segment : ℕ) → Reaches segment (zones_over first) start (take ((head_of first).rows - start) bits) → Reaches segment (zones_over_in (tree first rest)) start bits
here first rest start bits segment found =
    let there = taken_there ((head_of first).rows - start) bits found.0 true found.1 in
    (found.0, there.1, subst (AnyOf (IsToldIn segment)) (sym (zones_first first rest (start + found.0) (omega (arith, there.0)))) found.2)

behind : (first : Tree) (rest : Forest) (start : ℕ) (bits : List Bool) (segment : ℕ) → Reaches segment (zones_over_in rest) (start - (head_of first).rows) (drop ((head_of first).rows - start) bits) → Reaches segment (zones_over_in (tree first rest)) start bits
behind first rest start bits segment found =
    let skipped : ℕ = (head_of first).rows - start in
    let later : start + ((head_of first).rows - start + found.0) ≡ (head_of first).rows + (start - (head_of first).rows + found.0) = omega arith in
    ((head_of first).rows - start + found.0, dropped_at bits skipped found.0 ∙ found.1, subst (AnyOf (IsToldIn segment)) (sym (zones_later first rest (start + ((head_of first).rows - start + found.0)) (start - (head_of first).rows + found.0) later)) found.2)

told_in : (table : Tree) (segment place : ℕ) → slice_get (needed table 0 (replicate (head_of table).rows true)) place ≡ Some segment → RangeFinds (IsIn segment) (derivation table all) 0 (head_of table).rows
told_in table segment place at =
    subst (λ (k : ℕ). RangeFinds (IsIn segment) (derivation table all) 0 k) (length-replicate (head_of table).rows true) (needed_reached table 0 (replicate (head_of table).rows true) segment place at)

mutual
  pub zones_reached : (t : Tree) (start : ℕ) (bits : List Bool) (segment place : ℕ) → slice_get (zones_needed t start bits) place ≡ Some segment → (row : ℕ) × (slice_get bits row ≡ Some true) × AnyOf (IsToldIn segment) (zones_over t (start + row))
  zones_reached (missing head) start bits segment place at = absurd cc
  zones_reached (leaf head other coding) start bits segment place at = absurd cc
  zones_reached (chunks head forest) start bits segment place at = zones_reached_in forest start bits segment place at
  zones_reached (fields head forest validity) start bits segment place at = absurd cc
  zones_reached (dict head values codes) start bits segment place at = absurd cc
  zones_reached (lists head elements offsets validity) start bits segment place at = absurd cc
  zones_reached (zoned head zones content table) start bits segment place at =
      let some = one_of_some segment (selects_some bits) (needed table 0 (replicate (head_of table).rows true) ++ zones_needed content start bits) place at in
      ⊎_elim (λ (one : IsOneOf segment (needed table 0 (replicate (head_of table).rows true))). (let first = first_selected bits some.0 in (first.0, first.1, inl (told_in table segment one.0 one.1))))
      (λ (one : IsOneOf segment (zones_needed content start bits)). (let found = zones_reached content start bits segment one.0 one.1 in (found.0, found.1, inr found.2)))
      (one_of_both segment (needed table 0 (replicate (head_of table).rows true)) (zones_needed content start bits) some.1.0 some.1.1)

  pub zones_reached_in : (forest : Forest) (start : ℕ) (bits : List Bool) (segment place : ℕ) → slice_get (zones_needed_in forest start bits) place ≡ Some segment → (row : ℕ) × (slice_get bits row ≡ Some true) × AnyOf (IsToldIn segment) (zones_over_in forest (start + row))
  zones_reached_in no_trees start bits segment place at = absurd cc
  zones_reached_in (tree first rest) start bits segment place at =
      ⊎_elim (λ (one : IsOneOf segment (cond (selects_some (take ((head_of first).rows - start) bits)) (zones_needed first start (take ((head_of first).rows - start) bits)) [])).
      (let some = one_of_some segment (selects_some (take ((head_of first).rows - start) bits)) (zones_needed first start (take ((head_of first).rows - start) bits)) one.0 one.1 in
      here first rest start bits segment (zones_reached first start (take ((head_of first).rows - start) bits) segment some.1.0 some.1.1)))
      (λ (one : IsOneOf segment (zones_needed_in rest (start - (head_of first).rows) (drop ((head_of first).rows - start) bits))).
      behind first rest start bits segment (zones_reached_in rest (start - (head_of first).rows) (drop ((head_of first).rows - start) bits) segment one.0 one.1))
      (one_of_both segment (cond (selects_some (take ((head_of first).rows - start) bits)) (zones_needed first start (take ((head_of first).rows - start) bits)) []) (zones_needed_in rest (start - (head_of first).rows) (drop ((head_of first).rows - start) bits)) place at)

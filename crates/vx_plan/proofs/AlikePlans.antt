-- Plans whose children are alike are alike, and alike plans have one value and the same reads.
use Rattle.std.proofs.Common.{◌≡◌, ℕ, zero, suc, ◌+◌, ◌-◌, ltb, Bool, true, false, cond, map, refl, sym, ap, ◌∙◌}
use Rattle.vx_base.specs.declared.codings.Coding.{Coding}
use Rattle.vx_expr.specs.Terms.{Term}
use Rattle.vx_rows.specs.Derivations.{Derivation, packed, list_row, concluded, each_row, Leaves, derived}
use Rattle.vx_rows.specs.Reads.{directly, reads_of}
use Rattle.vx_plan.specs.Pruning.{Pruning, is_pruned_at}
use Rattle.vx_plan.specs.Plans.{Plan, concat_plan, eval_plan, filter_plan, pack_plan, take_plan, list_plan, scan_plan, zoned_plan, pruning_plan, Plans, no_plans, plan, PlanValidity, all_valid, valid_as, plan_head}
use Rattle.vx_plan.specs.PlanRows.{plan_derivation, plan_derivation_in, plan_derivations, plan_where_valid, plan_value, plan_reads}
use Rattle.vx_rows.specs.Renumbered.{renumbered, each_renumbered, read_renumbered}
use Rattle.vx_rows.specs.Heads.{Head}
use Rattle.vx_rows.specs.Zones.{Zones}
use Rattle.vx_plan.specs.Alike.{SameHead, IsAlike, AreAlike, ValidityIsAlike}
use Rattle.vx_rows.proofs.Renumbering.{same_worth, reads_moved}

-- ---- concats

renumbered_by : (b : Bool) (f : ℕ → ℕ) (d e : Derivation) → renumbered f (cond b d e) ≡ cond b (renumbered f d) (renumbered f e)
renumbered_by true f d e = refl
renumbered_by false f d e = refl

alike_in : (f g : ℕ → ℕ) (offset : ℕ) (ps qs : Plans) (row : ℕ) → AreAlike f g offset ps qs → renumbered f (plan_derivation_in offset ps row) ≡ renumbered g (plan_derivation_in offset qs row)
alike_in f g offset no_plans no_plans row are = refl
alike_in f g offset no_plans (plan q qs) row are = absurd are
alike_in f g offset (plan p ps) no_plans row are = absurd are
alike_in f g offset (plan p ps) (plan q qs) row are =
    let size : (plan_head p).rows ≡ (plan_head q).rows = are.0.head.rows in
    let here : renumbered f (plan_derivation offset p row) ≡ renumbered g (plan_derivation offset q row) = are.0.derived row in
    let more : renumbered f (plan_derivation_in offset ps (row - (plan_head p).rows)) ≡ renumbered g (plan_derivation_in offset qs (row - (plan_head p).rows)) = alike_in f g offset ps qs (row - (plan_head p).rows) are.1 in
    let left : renumbered f (cond (ltb row (plan_head p).rows) (plan_derivation offset p row) (plan_derivation_in offset ps (row - (plan_head p).rows))) ≡ cond (ltb row (plan_head p).rows) (renumbered f (plan_derivation offset p row)) (renumbered f (plan_derivation_in offset ps (row - (plan_head p).rows))) = renumbered_by (ltb row (plan_head p).rows) f (plan_derivation offset p row) (plan_derivation_in offset ps (row - (plan_head p).rows)) in
    let right : renumbered g (cond (ltb row (plan_head q).rows) (plan_derivation offset q row) (plan_derivation_in offset qs (row - (plan_head q).rows))) ≡ cond (ltb row (plan_head q).rows) (renumbered g (plan_derivation offset q row)) (renumbered g (plan_derivation_in offset qs (row - (plan_head q).rows))) = renumbered_by (ltb row (plan_head q).rows) g (plan_derivation offset q row) (plan_derivation_in offset qs (row - (plan_head q).rows)) in
    cc

pub concat_alike : (f g : ℕ → ℕ) (offset : ℕ) (head other : Head) (ps qs : Plans) → SameHead head other → AreAlike f g offset ps qs → IsAlike f g offset (concat_plan head ps) (concat_plan other qs)
concat_alike f g offset head other ps qs same are = record { head = same; derived = λ row. alike_in f g offset ps qs row are }

-- ---- packs

alike_each : (f g : ℕ → ℕ) (offset : ℕ) (ps qs : Plans) (row : ℕ) → AreAlike f g offset ps qs → each_renumbered f (plan_derivations offset ps row) ≡ each_renumbered g (plan_derivations offset qs row)
alike_each f g offset no_plans no_plans row are = refl
alike_each f g offset no_plans (plan q qs) row are = absurd are
alike_each f g offset (plan p ps) no_plans row are = absurd are
alike_each f g offset (plan p ps) (plan q qs) row are =
    let here : renumbered f (plan_derivation offset p row) ≡ renumbered g (plan_derivation offset q row) = are.0.derived row in
    let more : each_renumbered f (plan_derivations offset ps row) ≡ each_renumbered g (plan_derivations offset qs row) = alike_each f g offset ps qs row are.1 in
    cc

alike_valid : (f g : ℕ → ℕ) (offset : ℕ) (v w : PlanValidity) (row : ℕ) (d e : Derivation) → ValidityIsAlike f g offset v w → renumbered f d ≡ renumbered g e → renumbered f (plan_where_valid offset v row d) ≡ renumbered g (plan_where_valid offset w row e)
alike_valid f g offset all_valid all_valid row d e are same = same
alike_valid f g offset all_valid (valid_as q) row d e are same = absurd are
alike_valid f g offset (valid_as p) all_valid row d e are same = absurd are
alike_valid f g offset (valid_as p) (valid_as q) row d e are same =
    let here : renumbered f (plan_derivation offset p row) ≡ renumbered g (plan_derivation offset q row) = are.derived row in
    cc

pub pack_alike : (f g : ℕ → ℕ) (offset : ℕ) (head other : Head) (ps qs : Plans) (v w : PlanValidity) → SameHead head other → AreAlike f g offset ps qs → ValidityIsAlike f g offset v w → IsAlike f g offset (pack_plan head ps v) (pack_plan other qs w)
pack_alike f g offset head other ps qs v w same are valid = record {
  head = same;
  derived = λ row. alike_valid f g offset v w row (packed (plan_derivations offset ps row)) (packed (plan_derivations offset qs row)) valid (ap packed (alike_each f g offset ps qs row are));
}

-- ---- takes

rows_alike : (f g : ℕ → ℕ) (of_row of_other : ℕ → Derivation) → ((row : ℕ) → renumbered f (of_row row) ≡ renumbered g (of_other row)) → (from count : ℕ) → each_renumbered f (each_row of_row from count) ≡ each_renumbered g (each_row of_other from count)
rows_alike f g of_row of_other same from zero = refl
rows_alike f g of_row of_other same from (suc count) =
    let here : renumbered f (of_row from) ≡ renumbered g (of_other from) = same from in
    let more : each_renumbered f (each_row of_row (from + 1) count) ≡ each_renumbered g (each_row of_other (from + 1) count) = rows_alike f g of_row of_other same (from + 1) count in
    cc

pub take_alike : (f g : ℕ → ℕ) (offset : ℕ) (head other : Head) (codes other_codes values other_values : Plan) → SameHead head other → f head.number ≡ g other.number → IsAlike f g offset codes other_codes → IsAlike f g offset values other_values → IsAlike f g offset (take_plan head codes values) (take_plan other other_codes other_values)
take_alike f g offset head other codes other_codes values other_values same number codes_alike values_alike = record {
  head = same;
  derived = λ row.
      let code : renumbered f (plan_derivation offset codes row) ≡ renumbered g (plan_derivation offset other_codes row) = codes_alike.derived row in
      let each : each_renumbered f (each_row (plan_derivation offset values) 0 (plan_head values).rows) ≡ each_renumbered g (each_row (plan_derivation offset other_values) 0 (plan_head values).rows) = rows_alike f g (plan_derivation offset values) (plan_derivation offset other_values) values_alike.derived 0 (plan_head values).rows in
      let size : (plan_head values).rows ≡ (plan_head other_values).rows = values_alike.head.rows in
      cc;
}

-- ---- others

pub eval_alike : (f g : ℕ → ℕ) (offset : ℕ) (head other : Head) (e : Term) (p q : Plan) → SameHead head other → IsAlike f g offset p q → IsAlike f g offset (eval_plan head e p) (eval_plan other e q)
eval_alike f g offset head other e p q same are = record {
  head = same;
  derived = λ row.
      let t : (plan_head p).dtype ≡ (plan_head q).dtype = are.head.dtype in
      let here : renumbered f (plan_derivation offset p row) ≡ renumbered g (plan_derivation offset q row) = are.derived row in
      cc;
}

pub scan_alike : (f g : ℕ → ℕ) (offset : ℕ) (head other inner other_inner : Head) (segment : ℕ) (coding : Coding) → SameHead head other → SameHead inner other_inner → IsAlike f g offset (filter_plan head (scan_plan inner segment coding)) (filter_plan other (scan_plan other_inner segment coding))
scan_alike f g offset head other inner other_inner segment coding same inside = record {
  head = same;
  derived = λ row.
      let t : inner.dtype ≡ other_inner.dtype = inside.dtype in
      let r : inner.rows ≡ other_inner.rows = inside.rows in
      rw (t, r) refl;
}

pub pruning_alike : (f g : ℕ → ℕ) (offset : ℕ) (head other : Head) (pruning : Pruning) (p q : Plan) → SameHead head other → IsAlike f g offset p q → IsAlike f g offset (pruning_plan head pruning p) (pruning_plan other pruning q)
pruning_alike f g offset head other pruning p q same are = record {
  head = same;
  derived = λ row.
      let each : each_renumbered f (each_row (plan_derivation offset p) 0 (plan_head p).rows) ≡ each_renumbered g (each_row (plan_derivation offset q) 0 (plan_head p).rows) = rows_alike f g (plan_derivation offset p) (plan_derivation offset q) are.derived 0 (plan_head p).rows in
      ap (concluded (is_pruned_at pruning head.rows row)) (each ∙ ap (λ (count : ℕ). each_renumbered g (each_row (plan_derivation offset q) 0 count)) are.head.rows)
      ∙ ap (λ (rows : ℕ). concluded (is_pruned_at pruning rows row) (each_renumbered g (each_row (plan_derivation offset q) 0 (plan_head q).rows))) same.rows;
}

pub zoned_alike : (f g : ℕ → ℕ) (offset : ℕ) (head other : Head) (zones other_zones : Zones) (p q table other_table : Plan) → SameHead head other → IsAlike f g offset p q → IsAlike f g offset (zoned_plan head zones p table) (zoned_plan other other_zones q other_table)
zoned_alike f g offset head other zones other_zones p q table other_table same are = record { head = same; derived = are.derived }

pub list_alike : (f g : ℕ → ℕ) (offset : ℕ) (head other : Head) (elements other_elements offsets other_offsets : Plan) (v w : PlanValidity) → SameHead head other → f head.number ≡ g other.number → IsAlike f g offset (list_plan head elements offsets v) (list_plan other other_elements other_offsets w)
list_alike f g offset head other elements other_elements offsets other_offsets v w same number = record { head = same; derived = λ row. ap (λ (n : ℕ). list_row n row) number }

-- ---- values and reads

pub alike_values : (f g : ℕ → ℕ) (leaves : Leaves) (offset : ℕ) (p q : Plan) (row : ℕ) → IsAlike f g offset p q → plan_value leaves offset p row ≡ plan_value leaves offset q row
alike_values f g leaves offset p q row are = sym (same_worth leaves f (plan_derivation offset p row)) ∙ ap (derived leaves) (are.derived row) ∙ same_worth leaves g (plan_derivation offset q row)

pub alike_reads : (f g : ℕ → ℕ) (offset : ℕ) (p q : Plan) (row : ℕ) → IsAlike f g offset p q → map (read_renumbered f) (plan_reads offset p row) ≡ map (read_renumbered g) (plan_reads offset q row)
alike_reads f g offset p q row are = sym (reads_moved f directly (plan_derivation offset p row)) ∙ ap (reads_of directly) (are.derived row) ∙ reads_moved g directly (plan_derivation offset q row)

-- The list or the take that a read names stands in the plan of the projection's tree.
use Rattle.std.proofs.Common.{◌≡◌, ℕ, ◌+◌, ◌-◌, zero, suc, ◌⊎◌, inl, inr, ⊎_elim, Bool, true, false, refl, sym, ◌∙◌, subst}
use Rattle.std.specs.Prelude.{if◌then◌else◌, nat_lt}
use Rattle.vx_expr.specs.Bound.{Bound}
use Rattle.vx_expr.specs.Mentions.{is_root, uses_root, uses_row_number}
use Rattle.vx_rows.specs.Derivations.{LeafRow, Derivation, packed, Derivations, each_row, Leaves}
use Rattle.vx_rows.specs.Heads.{Head}
use Rattle.vx_rows.specs.Reads.{Way, directly, inside, CodeRow, code_row, Found, a_leaf_row, a_code, a_list_row, Read, reads_of, reads_of_each, Finds}
use Rattle.vx_rows.proofs.ReadRows.{any_either}
use Rattle.vx_lower.specs.Projected.{Projection}
use Rattle.vx_lower.specs.RowIndex.{row_index_plan_from_by}
use Rattle.vx_plan.specs.Plans.{Plan, no_plan, concat_plan, eval_plan, filter_plan, pack_plan, take_plan, share_plan, list_plan, row_idx_plan, scan_plan, zoned_plan, pruning_plan, Plans, no_plans, plan, PlanValidity, all_valid, valid_as, plan_head}
use Rattle.vx_plan.specs.PlanRows.{plan_derivation, plan_derivation_in, plan_derivations, plan_where_valid, plan_reads}
use Rattle.vx_steps.specs.Below.{StandsIn, StandsAmong, StandsInValidity}
use Rattle.vx_steps.specs.Laws.{IsRowOf, IsBadCodeAt}
use Rattle.vx_scan.specs.PlanTexts.{held_tree, IsProjectionPlan, IsProjectionPlanBy}
use Rattle.vx_scan.specs.FilePlans.{IsTakeAs}
use Rattle.vx_scan.specs.Scanned.{IsListAs}

-- ---- what is found tells a plan

-- what is found of a plan's own row tells the plan, and no row of a leaf does
record Shows (P : Found → Type 0) (F : Plan → Type 0) : Type 0 where
  leaf_rows : (at : LeafRow) → P (a_leaf_row at) → ⊥
  lists : (head : Head) (elements offsets : Plan) (validity : PlanValidity) (row : ℕ) → P (a_list_row head.number row) → F (list_plan head elements offsets validity)
  takes : (head : Head) (codes values : Plan) (code : CodeRow) → code.dictionary ≡ head.number → P (a_code code) → F (take_plan head codes values)

abbrev Has : (Found → Type 0) → Way → Derivation → Type 0
Has P way d = Finds P (reads_of way d)

abbrev HasEach : (Found → Type 0) → Way → Derivations → Type 0
HasEach P way ds = Finds P (reads_of_each way ds)

some_row : (P : Found → Type 0) (way : Way) (f : ℕ → Derivation) (start count : ℕ) → HasEach P way (each_row f start count) → (other : ℕ) × Has P way (f other)
some_row P way f start zero any = absurd any
some_row P way f start (suc count) any = by_case (any_either (λ (read : Read). P read.found) (reads_of way (f start)) (reads_of_each way (each_row f (start + 1) count)) any) (some_row P way f (start + 1) count)
  where
    by_case : Has P way (f start) ⊎ HasEach P way (each_row f (start + 1) count) → (HasEach P way (each_row f (start + 1) count) → (other : ℕ) × Has P way (f other)) → (other : ℕ) × Has P way (f other)
    by_case (inl here) rest = (start, here)
    by_case (inr later) rest = rest later

by_choice : (P : Found → Type 0) (way : Way) (b : Bool) (d e : Derivation) (A : Type 0) → (Has P way d → A) → (Has P way e → A) → Has P way (if b then d else e) → A
by_choice P way true d e A f g any = f any
by_choice P way false d e A f g any = g any

abbrev ValidHas : (Found → Type 0) → Way → ℕ → PlanValidity → ℕ → Type 0
ValidHas P way offset all_valid row = ⊥
ValidHas P way offset (valid_as validity) row = Has P way (plan_derivation offset validity row)

either_valid : (P : Found → Type 0) (way : Way) (offset : ℕ) (validity : PlanValidity) (row : ℕ) (d : Derivation) → Has P way (plan_where_valid offset validity row d) → Has P way d ⊎ ValidHas P way offset validity row
either_valid P way offset all_valid row d any = inl any
either_valid P way offset (valid_as validity) row d any = any_either (λ (read : Read). P read.found) (reads_of way d) (reads_of way (plan_derivation offset validity row)) any

mutual
  found_stands : (P : Found → Type 0) (F : Plan → Type 0) → Shows P F → (offset : ℕ) (way : Way) (p : Plan) (row : ℕ) → Has P way (plan_derivation offset p row) → StandsIn F p
  found_stands P F shows offset way (no_plan head) row any = absurd any
  found_stands P F shows offset way (concat_plan head children) row any = inr (found_in P F shows offset way children row any)
  found_stands P F shows offset way (eval_plan head e child) row any = inr (found_stands P F shows offset way child row any)
  found_stands P F shows offset way (filter_plan head child) row any = inr (found_stands P F shows offset way child row any)
  found_stands P F shows offset way (pack_plan head children validity) row any =
      ⊎_elim
      (λ (left : Has P way (packed (plan_derivations offset children row))). inr (inl (found_fields P F shows offset way children row left)))
      (λ (right : ValidHas P way offset validity row). inr (inr (found_validity P F shows offset way validity row right)))
      (either_valid P way offset validity row (packed (plan_derivations offset children row)) any)
  found_stands P F shows offset way (take_plan head codes values) row (inl here) =
      inl (shows.takes head codes values (code_row head.number row (plan_derivation offset codes row) (each_row (plan_derivation offset values) 0 (plan_head values).rows)) refl here)
  found_stands P F shows offset way (take_plan head codes values) row (inr any) =
      let all : Derivations = each_row (plan_derivation offset values) 0 (plan_head values).rows in
      ⊎_elim
      (λ (left : Has P way (plan_derivation offset codes row)). inr (inl (found_stands P F shows offset way codes row left)))
      (λ (right : HasEach P (inside head.number way) all).
      let one : (other : ℕ) × Has P (inside head.number way) (plan_derivation offset values other) = some_row P (inside head.number way) (plan_derivation offset values) 0 (plan_head values).rows right in
      inr (inr (found_stands P F shows offset (inside head.number way) values one.0 one.1)))
      (any_either (λ (read : Read). P read.found) (reads_of way (plan_derivation offset codes row)) (reads_of_each (inside head.number way) all) any)
  found_stands P F shows offset way (share_plan head child) row any =
      let all : Derivations = each_row (plan_derivation offset child) 0 (plan_head child).rows in
      ⊎_elim
      (λ (left : Has P way (plan_derivation offset child row)). inr (found_stands P F shows offset way child row left))
      (λ (right : HasEach P way all).
      let one : (other : ℕ) × Has P way (plan_derivation offset child other) = some_row P way (plan_derivation offset child) 0 (plan_head child).rows right in
      inr (found_stands P F shows offset way child one.0 one.1))
      (any_either (λ (read : Read). P read.found) (reads_of way (plan_derivation offset child row)) (reads_of_each way all) any)
  found_stands P F shows offset way (list_plan head elements offsets validity) row (inl here) = inl (shows.lists head elements offsets validity row here)
  found_stands P F shows offset way (list_plan head elements offsets validity) row (inr none) = absurd none
  found_stands P F shows offset way (row_idx_plan head) row any = absurd any
  found_stands P F shows offset way (scan_plan head segment coding) row (inl here) = absurd (shows.leaf_rows (record { dtype = head.dtype; coding = coding; rows = head.rows; segment = segment; row = row }) here)
  found_stands P F shows offset way (scan_plan head segment coding) row (inr none) = absurd none
  found_stands P F shows offset way (zoned_plan head zones content table) row any = inr (inl (found_stands P F shows offset way content row any))
  found_stands P F shows offset way (pruning_plan head pruning table) row any =
      let one : (other : ℕ) × Has P way (plan_derivation offset table other) = some_row P way (plan_derivation offset table) 0 (plan_head table).rows any in
      inr (found_stands P F shows offset way table one.0 one.1)

  found_in : (P : Found → Type 0) (F : Plan → Type 0) → Shows P F → (offset : ℕ) (way : Way) (ps : Plans) (row : ℕ) → Has P way (plan_derivation_in offset ps row) → StandsAmong F ps
  found_in P F shows offset way no_plans row any = absurd any
  found_in P F shows offset way (plan first rest) row any =
      by_choice P way (nat_lt row (plan_head first).rows) (plan_derivation offset first row) (plan_derivation_in offset rest (row - (plan_head first).rows)) (StandsAmong F (plan first rest))
      (λ here. inl (found_stands P F shows offset way first row here))
      (λ later. inr (found_in P F shows offset way rest (row - (plan_head first).rows) later)) any

  found_fields : (P : Found → Type 0) (F : Plan → Type 0) → Shows P F → (offset : ℕ) (way : Way) (ps : Plans) (row : ℕ) → HasEach P way (plan_derivations offset ps row) → StandsAmong F ps
  found_fields P F shows offset way no_plans row any = absurd any
  found_fields P F shows offset way (plan first rest) row any =
      ⊎_elim
      (λ (left : Has P way (plan_derivation offset first row)). inl (found_stands P F shows offset way first row left))
      (λ (right : HasEach P way (plan_derivations offset rest row)). inr (found_fields P F shows offset way rest row right))
      (any_either (λ (read : Read). P read.found) (reads_of way (plan_derivation offset first row)) (reads_of_each way (plan_derivations offset rest row)) any)

  found_validity : (P : Found → Type 0) (F : Plan → Type 0) → Shows P F → (offset : ℕ) (way : Way) (validity : PlanValidity) (row : ℕ) → ValidHas P way offset validity row → StandsInValidity F validity
  found_validity P F shows offset way all_valid row any = absurd any
  found_validity P F shows offset way (valid_as validity) row any = found_stands P F shows offset way validity row any

shows_list : (n : ℕ) → Shows (IsRowOf n) (IsListAs n)
shows_list n = record {
  leaf_rows = λ at is. is;
  lists = λ head elements offsets validity row is. is;
  takes = λ head codes values code same is. absurd is;
}

shows_take : (leaves : Leaves) (n at : ℕ) → Shows (IsBadCodeAt leaves n at) (IsTakeAs n)
shows_take leaves n at = record {
  leaf_rows = λ at is. is;
  lists = λ head elements offsets validity row is. absurd is;
  takes = λ head codes values code same is. sym same ∙ is.0;
}

-- ---- neither stands above the tree's plan

over_list : (number : ℕ) (root row_number : Bool) (n : ℕ) (a : Bound) (child : Plan) → StandsIn (IsListAs number) (row_index_plan_from_by root row_number n a child) → StandsIn (IsListAs number) child
over_list number false false n a child (inl s) = absurd s
over_list number false false n a child (inr (inl s)) = absurd s
over_list number false false n a child (inr (inr (inl s))) = absurd s
over_list number false false n a child (inr (inr (inr s))) = absurd s
over_list number false true n a child (inl s) = absurd s
over_list number false true n a child (inr s) = absurd s
over_list number true false n a child (inl s) = absurd s
over_list number true false n a child (inr s) = s
over_list number true true n a child (inl s) = absurd s
over_list number true true n a child (inr (inl s)) = absurd s
over_list number true true n a child (inr (inr (inl (inl s)))) = absurd s
over_list number true true n a child (inr (inr (inl (inr (inl s))))) = s
over_list number true true n a child (inr (inr (inl (inr (inr s))))) = absurd s
over_list number true true n a child (inr (inr (inr s))) = absurd s

over_take : (number : ℕ) (root row_number : Bool) (n : ℕ) (a : Bound) (child : Plan) → StandsIn (IsTakeAs number) (row_index_plan_from_by root row_number n a child) → StandsIn (IsTakeAs number) child
over_take number false false n a child (inl s) = absurd s
over_take number false false n a child (inr (inl s)) = absurd s
over_take number false false n a child (inr (inr (inl s))) = absurd s
over_take number false false n a child (inr (inr (inr s))) = absurd s
over_take number false true n a child (inl s) = absurd s
over_take number false true n a child (inr s) = absurd s
over_take number true false n a child (inl s) = absurd s
over_take number true false n a child (inr s) = s
over_take number true true n a child (inl s) = absurd s
over_take number true true n a child (inr (inl s)) = absurd s
over_take number true true n a child (inr (inr (inl (inl s)))) = absurd s
over_take number true true n a child (inr (inr (inl (inr (inl s))))) = s
over_take number true true n a child (inr (inr (inl (inr (inr s))))) = absurd s
over_take number true true n a child (inr (inr (inr s))) = absurd s

by_plan : (F : Plan → Type 0) → ((root row_number : Bool) (n : ℕ) (a : Bound) (child : Plan) → StandsIn F (row_index_plan_from_by root row_number n a child) → StandsIn F child) → (b : Bool) (p : Projection) (q : Plan) → IsProjectionPlanBy b p q → StandsIn F q → StandsIn F (held_tree p)
by_plan F over true p q is s = subst (StandsIn F) is s
by_plan F over false p q (n, is) s = over (uses_root p.expression.term) (uses_row_number p.expression.term) n p.expression (held_tree p) (subst (StandsIn F) is s)

-- ---- so it stands there

pub list_stands : (p : Projection) (q : Plan) → IsProjectionPlan p q → (n offset row : ℕ) → Finds (IsRowOf n) (plan_reads offset q row) → StandsIn (IsListAs n) (held_tree p)
list_stands p q is n offset row any = by_plan (IsListAs n) (over_list n) (is_root p.expression.term) p q is (found_stands (IsRowOf n) (IsListAs n) (shows_list n) offset directly q row any)

pub take_stands : (p : Projection) (q : Plan) → IsProjectionPlan p q → (leaves : Leaves) (n at offset row : ℕ) → Finds (IsBadCodeAt leaves n at) (plan_reads offset q row) → StandsIn (IsTakeAs n) (held_tree p)
take_stands p q is leaves n at offset row any = by_plan (IsTakeAs n) (over_take n) (is_root p.expression.term) p q is (found_stands (IsBadCodeAt leaves n at) (IsTakeAs n) (shows_take leaves n at) offset directly q row any)

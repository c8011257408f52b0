-- What a table holds for a projection is the projection's plan, but for numbers.
use Rattle.std.proofs.Common.{◌≡◌, ℕ, Bool, true, false, List, refl, sym, ap, ◌∙◌, subst}
use Rattle.vx_base.specs.Data.{DataType}
use Rattle.vx_expr.specs.Bound.{Bound}
use Rattle.vx_expr.specs.Mentions.{uses_root, uses_row_number, is_root}
use Rattle.vx_expr.specs.Rewritten.{with_row_number, row_number_as_root, over_row_number}
use Rattle.vx_expr.specs.Terms.{Term}
use Rattle.vx_expr.specs.Types.{row_number_type}
use Rattle.vx_plan.specs.Alike.{SameHead, IsAlike}
use Rattle.vx_plan.specs.Nodes.{Node}
use Rattle.vx_plan.specs.Plans.{Plan, no_plans, plan, all_valid, plan_at, plan_head}
use Rattle.vx_plan.specs.PlanRows.{plan_derivation}
use Rattle.vx_plan.proofs.AlikePlans.{eval_alike, pack_alike}
use Rattle.vx_rows.specs.Renumbered.{renumbered}
use Rattle.vx_lower.specs.Lowered.{lowered}
use Rattle.vx_lower.specs.Numbered.{numbered}
use Rattle.vx_lower.specs.OldNumbers.{old_number}
use Rattle.vx_lower.specs.Planned.{planned_by, planned}
use Rattle.vx_lower.specs.PlannedOver.{IsPlannedOver}
use Rattle.vx_lower.specs.Projected.{Projection, kept_of}
use Rattle.vx_lower.specs.RowIndex.{new_head, row_numbers, empty_structs, numbered_rows, row_index_plan_by, row_index_plan}
use Rattle.vx_lower.proofs.OldNumbers.{numbered_alike}

-- ---- plans of one expression over alike plans

new_heads : (t : DataType) (p q : Plan) → (plan_head p).rows ≡ (plan_head q).rows → SameHead (new_head t p) (new_head t q)
new_heads t p q rows = record { dtype = refl; rows = rows }

numbers_alike : (f g : ℕ → ℕ) (offset : ℕ) (p q : Plan) → (plan_head p).rows ≡ (plan_head q).rows → IsAlike f g offset (row_numbers p) (row_numbers q)
numbers_alike f g offset p q rows = record { head = new_heads row_number_type p q rows; derived = λ row. refl }

empty_alike : (f g : ℕ → ℕ) (offset : ℕ) (p q : Plan) → (plan_head p).rows ≡ (plan_head q).rows → IsAlike f g offset (empty_structs p) (empty_structs q)
empty_alike f g offset p q rows = record { head = record { dtype = refl; rows = rows }; derived = λ row. refl }

both_alike : (f g : ℕ → ℕ) (offset : ℕ) (p q : Plan) → IsAlike f g offset p q → IsAlike f g offset (numbered_rows p) (numbered_rows q)
both_alike f g offset p q are =
    pack_alike f g offset (new_head (with_row_number (plan_head p).dtype) p) (new_head (with_row_number (plan_head q).dtype) q) (plan (row_numbers p) (plan p no_plans)) (plan (row_numbers q) (plan q no_plans)) all_valid all_valid
    (record { dtype = ap with_row_number are.head.dtype; rows = are.head.rows }) (numbers_alike f g offset p q are.head.rows, (are, tt)) tt

alike_by : (uses numbers : Bool) (f g : ℕ → ℕ) (offset : ℕ) (a : Bound) (p q : Plan) → IsAlike f g offset p q → IsAlike f g offset (row_index_plan_by uses numbers a p) (row_index_plan_by uses numbers a q)
alike_by false false f g offset a p q are = eval_alike f g offset (new_head a.dtype p) (new_head a.dtype q) a.term (empty_structs p) (empty_structs q) (new_heads a.dtype p q are.head.rows) (empty_alike f g offset p q are.head.rows)
alike_by false true f g offset a p q are = eval_alike f g offset (new_head a.dtype p) (new_head a.dtype q) (row_number_as_root a).term (row_numbers p) (row_numbers q) (new_heads a.dtype p q are.head.rows) (numbers_alike f g offset p q are.head.rows)
alike_by true false f g offset a p q are = eval_alike f g offset (new_head a.dtype p) (new_head a.dtype q) a.term p q (new_heads a.dtype p q are.head.rows) are
alike_by true true f g offset a p q are = eval_alike f g offset (new_head a.dtype p) (new_head a.dtype q) (over_row_number a).term (numbered_rows p) (numbered_rows q) (new_heads a.dtype p q are.head.rows) (both_alike f g offset p q are)

pub row_index_alike : (f g : ℕ → ℕ) (offset : ℕ) (a : Bound) (p q : Plan) → IsAlike f g offset p q → IsAlike f g offset (row_index_plan a p) (row_index_plan a q)
row_index_alike f g offset a p q are = alike_by (uses_root a.term) (uses_row_number a.term) f g offset a p q are

-- ---- by the term and the dtype of the expression alone

abbrev with_root : DataType → Term → DataType → Bound
with_root t e s = record { term = e; root = t; dtype = s }

any_root : (uses numbers : Bool) (t other : DataType) (e : Term) (s : DataType) (p : Plan) → row_index_plan_by uses numbers (with_root t e s) p ≡ row_index_plan_by uses numbers (with_root other e s) p
any_root false false t other e s p = refl
any_root false true t other e s p = refl
any_root true false t other e s p = refl
any_root true true t other e s p = refl

same_over : (a b : Bound) (p : Plan) → a.term ≡ b.term → a.dtype ≡ b.dtype → row_index_plan a p ≡ row_index_plan b p
same_over a b p e t =
    any_root (uses_root a.term) (uses_row_number a.term) a.root b.root a.term a.dtype p
    ∙ (λ i. row_index_plan (with_root b.root (e i) (t i)) p)

-- ---- tables

-- a plan that is derived as one that is alike
derived_alike : (f g : ℕ → ℕ) (offset : ℕ) (p q r : Plan) → SameHead (plan_head p) (plan_head q) → ((row : ℕ) → plan_derivation offset p row ≡ plan_derivation offset q row) → IsAlike f g offset q r → IsAlike f g offset p r
derived_alike f g offset p q r head same are = record {
  head = record { dtype = head.dtype ∙ are.head.dtype; rows = head.rows ∙ are.head.rows };
  derived = λ row. ap (renumbered f) (same row) ∙ are.derived row;
}

in_table : (nodes : List Node) (number first offset : ℕ) (p : Plan) → plan_at nodes number ≡ numbered first p → IsAlike (old_number first p) (λ n. n) offset (plan_at nodes number) p
in_table nodes number first offset p is = subst (λ (q : Plan). IsAlike (old_number first p) (λ n. n) offset q p) (sym is) (numbered_alike offset first p)

planned_is : (b : Bool) (p : Projection) → is_root p.expression.term ≡ b → planned p ≡ planned_by b p
planned_is b p is = ap (λ (c : Bool). planned_by c p) is

pub holds_planned : (old new : List Node) (a : Bound) (child number first : ℕ) (p : Projection) → is_root p.expression.term ≡ false → a.term ≡ p.expression.term → a.dtype ≡ p.expression.dtype → plan_at old child ≡ numbered first (lowered p.root (kept_of p)) → IsPlannedOver old new a child number → IsAlike (old_number first (lowered p.root (kept_of p))) (λ n. n) p.offset (plan_at new number) (planned p)
holds_planned old new a child number first p is e t below over =
    let whole : Plan = lowered p.root (kept_of p) in
    let f : ℕ → ℕ = old_number first whole in
    let same : row_index_plan a whole ≡ planned p = same_over a p.expression whole e t ∙ sym (planned_is false p is) in
    subst (λ (q : Plan). IsAlike f (λ n. n) p.offset (plan_at new number) q) same
    (derived_alike f (λ n. n) p.offset (plan_at new number) (row_index_plan a (plan_at old child)) (row_index_plan a whole) over.head (over.derived p.offset)
    (row_index_alike f (λ n. n) p.offset a (plan_at old child) whole (in_table old child first p.offset whole below)))

pub holds_root : (nodes : List Node) (number first : ℕ) (p : Projection) → is_root p.expression.term ≡ true → plan_at nodes number ≡ numbered first (lowered p.root (kept_of p)) → IsAlike (old_number first (lowered p.root (kept_of p))) (λ n. n) p.offset (plan_at nodes number) (planned p)
holds_root nodes number first p is below =
    let whole : Plan = lowered p.root (kept_of p) in
    subst (λ (q : Plan). IsAlike (old_number first whole) (λ n. n) p.offset (plan_at nodes number) q) (sym (planned_is true p is)) (in_table nodes number first p.offset whole below)

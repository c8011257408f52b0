-- Kept columns of which no two are for one plan.
use Rattle.std.proofs.Common.{◌≡◌, ℕ, zero, suc, ◌==◌, ⊎_elim, Bool, true, false, List, [], ◌∷◌, ◌++◌, Option, Some, None, length, sym, ap, ◌∙◌, subst}
use Rattle.std.specs.Prelude.{if◌then◌else◌}
use Rattle.std.specs.List.{slice_get}
use Rattle.vx_base.specs.Columns.{ColumnData}
use Rattle.vx_steps.specs.KeptData.{Kept}
use Rattle.vx_steps.specs.Kept.{kept_at, AreOfDistinctPlans}
use Rattle.vx_steps.proofs.WantedReads.{got_pushed, eq_true}

none_here : (b : Bool) (x : ColumnData) (o : Option ColumnData) → b ≡ true → (if b then Some x else o) ≡ None → ⊥
none_here true x o e h = cc
none_here false x o e h = cc

none_rest : (b : Bool) (x : ColumnData) (o : Option ColumnData) → (if b then Some x else o) ≡ None → o ≡ None
none_rest true x o h = cc
none_rest false x o h = h

-- a column that stands somewhere is for a plan of which one is kept
some_at : (kept : List Kept) (p : ℕ) (k : Kept) → slice_get kept p ≡ Some k → kept_at kept k.node ≡ None → ⊥
some_at [] p k at none = cc
some_at (x ∷ kept) zero k at none =
    let is : x ≡ k = cc in
    none_here (x.node == k.node) x.column (kept_at kept k.node) (eq_true x.node k.node (ap (λ (y : Kept). y.node) is)) none
some_at (x ∷ kept) (suc p) k at none = some_at kept p k at (none_rest (x.node == k.node) x.column (kept_at kept k.node) none)

pub apart_none : AreOfDistinctPlans []
apart_none p q k l at_p at_q same = cc

pub apart_empty : (kept : List Kept) → kept ≡ [] → AreOfDistinctPlans kept
apart_empty kept none = subst AreOfDistinctPlans (sym none) apart_none

-- one more column, for a plan of which none is kept
pub apart_more : (old new : List Kept) (node : ℕ) (column : ColumnData) → kept_at old node ≡ None → new ≡ old ++ record { node = node; column = column } ∷ [] → AreOfDistinctPlans old → AreOfDistinctPlans new
apart_more old new node column none is apart = subst AreOfDistinctPlans (sym is) both
  where
    one : Kept
    one = record { node = node; column = column }

    other : (p : ℕ) (k l : Kept) → slice_get old p ≡ Some k → one ≡ l → k.node ≡ l.node → ⊥
    other p k l at e same =
        let number : node ≡ k.node = ap (λ (x : Kept). x.node) e ∙ sym same in
        some_at old p k at (subst (λ (n : ℕ). kept_at old n ≡ None) number none)

    both : AreOfDistinctPlans (old ++ record { node = node; column = column } ∷ [])
    both p q k l at_p at_q same =
        ⊎_elim
        (λ (a : slice_get old p ≡ Some k). ⊎_elim (λ (b : slice_get old q ≡ Some l). apart p q k l a b same) (λ (b : (q ≡ length old) × (one ≡ l)). absurd (other p k l a b.1 same)) (got_pushed old one q l at_q))
        (λ (a : (p ≡ length old) × (one ≡ k)). ⊎_elim (λ (b : slice_get old q ≡ Some l). absurd (other q l k b a.1 (sym same))) (λ (b : (q ≡ length old) × (one ≡ l)). a.0 ∙ sym b.0) (got_pushed old one q l at_q))
        (got_pushed old one p k at_p)

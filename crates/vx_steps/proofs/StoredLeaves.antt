-- What a scan holds of leaves.
use Rattle.std.proofs.Common.{◌≡◌, ℕ, ◌==◌, Bool, true, false, inl, inr, List, [], ◌∷◌, Some, refl, sym, ap, ◌∙◌, subst, arith}
use Rattle.std.specs.Prelude.{if◌then◌else◌}
use Rattle.vx_base.specs.Columns.{ColumnData}
use Rattle.vx_plan.specs.Nodes.{Node}
use Rattle.vx_rows.specs.Derivations.{Leaves}
use Rattle.vx_steps.specs.Held.{AreTyped, HaveLeaves}
use Rattle.vx_steps.specs.Kept.{kept_at, IsKept}
use Rattle.vx_steps.specs.KeptData.{Kept}
use Rattle.vx_steps.specs.LeafColumns.{AreAmongAll, StandFor}
use Rattle.vx_steps.specs.LeavesData.{LeavesData}
use Rattle.vx_steps.specs.Offers.{Keeps}
use Rattle.vx_steps.specs.Wholes.{KeepsValues}

-- ---- what is here is among all

pub typed_here : (nodes : List Node) (leaves : LeavesData) → AreAmongAll leaves → AreTyped nodes leaves.all → AreTyped nodes leaves.here
typed_here nodes leaves among typed n column at = typed n column (among n column at)

pub have_here : (nodes : List Node) (leaves : LeavesData) (by : Leaves) → AreAmongAll leaves → HaveLeaves nodes leaves.all by → HaveLeaves nodes leaves.here by
have_here nodes leaves by among have n segment column leaf at = have n segment column leaf (among n column at)

pub values_by_all : (nodes : List Node) (leaves : LeavesData) (offset : ℕ) (old new : List Kept) → AreAmongAll leaves → KeepsValues nodes leaves.here offset old new → KeepsValues nodes leaves.all offset old new
values_by_all nodes leaves offset old new among keeps = record {
  grows = keeps.grows;
  typed = keeps.typed;
  apart = keeps.apart;
  right = λ by have made. keeps.right by (have_here nodes leaves by among have) made;
}

-- ---- columns that stand for all

in_tail : (k : Kept) (all : List Kept) (n : ℕ) → IsKept all n → IsKept (k ∷ all) n
in_tail k all n kept = by (k.node == n)
  where
    by : (b : Bool) → (column : ColumnData) × ((if b then Some k.column else kept_at all n) ≡ Some column)
    by true = (k.column, refl)
    by false = kept

at_head : (k : Kept) (all : List Kept) → IsKept (k ∷ all) k.node
at_head k all =
    let e : (k.node == k.node) ≡ true = grind arith in
    (k.column, ap (λ (b : Bool). if b then Some k.column else kept_at all k.node) e)

-- where none of those that are so is gone, the same are kept of both
pub keeps_standing : (P : ℕ → Type 0) (here all stored result : List Kept) → StandFor here all stored → ((n : ℕ) → P n → IsKept all n → IsKept here n) → Keeps (λ k. P k.node) stored result → Keeps (λ k. P k.node) all result
keeps_standing P here [] [] result stand held keeps = keeps
keeps_standing P here [] (s ∷ stored) result stand held keeps = absurd stand
keeps_standing P here (k ∷ all) [] result stand held keeps =
    inr ((λ (p : P k.node). stand.0 (held k.node p (at_head k all))), keeps_standing P here all [] result stand.1 (λ n r kept. held n r (in_tail k all n kept)) keeps)
keeps_standing P here (k ∷ all) (s ∷ stored) result (inl stand) held (inl (p, (rest, are, keeps))) =
    let q : P k.node = subst P stand.0 p in
    let same : s ≡ k = stand.1.0 (held k.node q (at_head k all)) in
    inl (q, (rest, are ∙ ap (λ (v : Kept). v ∷ rest) same, keeps_standing P here all stored rest stand.1.1 (λ n r kept. held n r (in_tail k all n kept)) keeps))
keeps_standing P here (k ∷ all) (s ∷ stored) result (inl stand) held (inr (not, keeps)) =
    inr ((λ (q : P k.node). not (subst P (sym stand.0) q)), keeps_standing P here all stored result stand.1.1 (λ n r kept. held n r (in_tail k all n kept)) keeps)
keeps_standing P here (k ∷ all) (s ∷ stored) result (inr stand) held keeps =
    inr ((λ (p : P k.node). stand.0 (held k.node p (at_head k all))), keeps_standing P here all (s ∷ stored) result stand.1 (λ n r kept. held n r (in_tail k all n kept)) keeps)

-- Decoded leaves, whatever lies outside that agrees with what was delivered.
use Rattle.std.proofs.Common.{◌≡◌, ℕ, ◌<◌, ◌==◌, ◌⊎◌, inl, inr, ⊎_elim, Bool, true, false, List, [], ◌∷◌, ◌++◌, Option, Some, None, length, refl, sym, ap, ◌∙◌, subst, arith}
use Rattle.std.specs.Prelude.{if◌then◌else◌, option_and_then}
use Rattle.std.proofs.lemmas.Option.{none-some}
use Rattle.vx_base.specs.declared.codings.Coding.{Coding}
use Rattle.vx_base.specs.Columns.{ColumnData}
use Rattle.vx_base.specs.CodingsRead.{decoded_as}
use Rattle.vx_steps.specs.declared.leaf_reads.LeafRead.{LeafRead}
use Rattle.vx_plan.specs.declared.nodes.PlanKind.TheVariants as kinds
use Rattle.vx_plan.specs.declared.shapes.Shape.TheVariants as shapes
use Rattle.vx_plan.specs.Kinds.{coding_of}
use Rattle.vx_plan.specs.Nodes.{Node}
use Rattle.vx_plan.specs.Rules.{node_at}
use Rattle.vx_plan.specs.Shapes.{HasShape}
use Rattle.vx_plan.proofs.Collecting.{shape_there}
use Rattle.vx_rows.specs.SegmentLeaves.{Bytes, leaves_of}
use Rattle.vx_steps.specs.KeptData.{Kept}
use Rattle.vx_steps.specs.Kept.{kept_at, IsKept}
use Rattle.vx_steps.specs.Needs.{Among}
use Rattle.vx_steps.specs.ReadTableData.{Wanted}
use Rattle.vx_steps.specs.ReadTable.{bytes_of}
use Rattle.vx_steps.specs.Wants.{IsNeededLeaf}
use Rattle.vx_steps.specs.Wholes.{AddsOnly}
use Rattle.vx_steps.specs.Agreement.{Agrees}
use Rattle.vx_steps.specs.Delivered.{KeepsLeaves}
use Rattle.vx_steps.proofs.Keeping.{kept_new, kept_old}
use Rattle.vx_steps.proofs.Agreeing.{bytes_found}

pub keeps_none : (nodes : List Node) (wanted : List Wanted) (old : List Kept) → KeepsLeaves nodes wanted old old
keeps_none nodes wanted old = record { grows = λ n column at. at; typed = λ typed. typed; right = λ outside agrees have. have; came = λ n segment known leaf none kept. kept }

pub keeps_then : (nodes : List Node) (wanted : List Wanted) (old mid new : List Kept) → KeepsLeaves nodes wanted old mid → KeepsLeaves nodes wanted mid new → KeepsLeaves nodes wanted old new
keeps_then nodes wanted old mid new first second = record {
  grows = λ n column at. second.grows n column (first.grows n column at);
  typed = λ typed. second.typed (first.typed typed);
  right = λ outside agrees have. second.right outside agrees (first.right outside agrees have);
  came = λ n segment known leaf none kept. first.came n segment known leaf none (second.came n segment known leaf none kept);
}

-- what is kept after one more column was: an old one, or that one
pub kept_cases : (old : List Kept) (node : ℕ) (column : ColumnData) → kept_at old node ≡ None → (n : ℕ) (found : ColumnData) → kept_at (old ++ record { node = node; column = column } ∷ []) n ≡ Some found → (kept_at old n ≡ Some found) ⊎ ((node ≡ n) × (column ≡ found))
kept_cases old node column none n found at = by_old (kept_at old n) refl
  where
    by_test : (b : Bool) → (node == n) ≡ b → (if b then Some column else None) ≡ Some found → (node ≡ n) × (column ≡ found)
    by_test false e h = absurd cc
    by_test true e h = (grind arith, cc)

    by_old : (o : Option ColumnData) → kept_at old n ≡ o → (kept_at old n ≡ Some found) ⊎ ((node ≡ n) × (column ≡ found))
    by_old None e = inr (by_test (node == n) refl (sym (kept_new old (record { node = node; column = column } ∷ []) n e) ∙ at))
    by_old (Some x) e = inl (e ∙ sym (kept_old old (record { node = node; column = column } ∷ []) n x e) ∙ at)

-- a leaf of the table names one segment
same_segment : (a b : ℕ) (c d : Coding) → kinds.SegmentScan a c ≡ kinds.SegmentScan b d → a ≡ b
same_segment a b c d e = cc

pub one_segment : (nodes : List Node) (n a b : ℕ) → n < length nodes → HasShape nodes n (shapes.Leaf a) → HasShape nodes n (shapes.Leaf b) → a ≡ b
one_segment nodes n a b known one other = same_segment a b (coding_of (node_at nodes n).kind) (coding_of (node_at nodes n).kind) (sym (shape_there nodes n (shapes.Leaf a) known one).kind_is ∙ (shape_there nodes n (shapes.Leaf b) known other).kind_is)

pub decoded_keeps : (nodes : List Node) (wanted : List Wanted) (old : List Kept) (need : LeafRead) (bytes : List ℕ) (column : ColumnData) → need.leaf < length nodes → HasShape nodes need.leaf (shapes.Leaf need.segment) → kept_at old need.leaf ≡ None → bytes_of wanted need.segment ≡ Some bytes →
    column.dtype ≡ (node_at nodes need.leaf).dtype → length column.values ≡ (node_at nodes need.leaf).rows → decoded_as (coding_of (node_at nodes need.leaf).kind) (node_at nodes need.leaf).dtype (node_at nodes need.leaf).rows bytes ≡ Some column.values →
    KeepsLeaves nodes wanted old (old ++ record { node = need.leaf; column = column } ∷ [])
decoded_keeps nodes wanted old need bytes column known leaf none came dtype count read = record {
  grows = λ n found at. kept_old old (more ∷ []) n found at;
  typed = λ typed n found at. ⊎_elim (λ (e : kept_at old n ≡ Some found). typed n found e) (λ (e : (need.leaf ≡ n) × (column ≡ found)). new_typed n found e.0 e.1) (kept_cases old need.leaf column none n found at);
  right = λ outside agrees have n segment found over at. ⊎_elim (λ (e : kept_at old n ≡ Some found). have n segment found over e) (λ (e : (need.leaf ≡ n) × (column ≡ found)). new_right outside agrees n segment found over e.0 e.1) (kept_cases old need.leaf column none n found at);
  came = λ n segment inside over missing kept. ⊎_elim (λ (e : kept_at old n ≡ Some kept.0). (kept.0, e)) (λ (e : (need.leaf ≡ n) × (column ≡ kept.0)). absurd (not_missing n segment over e.0 missing)) (kept_cases old need.leaf column none n kept.0 kept.1);
}
  where
    more : Kept
    more = record { node = need.leaf; column = column }

    new_typed : (n : ℕ) (found : ColumnData) → need.leaf ≡ n → column ≡ found → (found.dtype ≡ (node_at nodes n).dtype) × (length found.values ≡ (node_at nodes n).rows)
    new_typed n found same is =
        let P : ℕ → Type 0 = λ k. (found.dtype ≡ (node_at nodes k).dtype) × (length found.values ≡ (node_at nodes k).rows) in
        let Q : ColumnData → Type 0 = λ x. (x.dtype ≡ (node_at nodes need.leaf).dtype) × (length x.values ≡ (node_at nodes need.leaf).rows) in
        subst P same (subst Q is (dtype, count))

    not_missing : (n segment : ℕ) → HasShape nodes n (shapes.Leaf segment) → need.leaf ≡ n → bytes_of wanted segment ≡ None → ⊥
    not_missing n segment over same missing =
        let P : ℕ → Type 0 = λ k. HasShape nodes k (shapes.Leaf segment) in
        let named : need.segment ≡ segment = one_segment nodes need.leaf need.segment segment known leaf (subst P (sym same) over) in
        none-some bytes (sym missing ∙ (ap (bytes_of wanted) (sym named) ∙ came))

    new_right : (outside : Bytes) → Agrees wanted outside → (n segment : ℕ) (found : ColumnData) → HasShape nodes n (shapes.Leaf segment) → need.leaf ≡ n → column ≡ found → leaves_of outside (node_at nodes n).dtype (coding_of (node_at nodes n).kind) (node_at nodes n).rows segment ≡ Some found.values
    new_right outside agrees n segment found over same is =
        let P : ℕ → Type 0 = λ k. HasShape nodes k (shapes.Leaf segment) in
        let over2 : HasShape nodes need.leaf (shapes.Leaf segment) = subst P (sym same) over in
        let named : need.segment ≡ segment = one_segment nodes need.leaf need.segment segment known leaf over2 in
        let there : outside need.segment ≡ Some bytes = bytes_found wanted outside need.segment bytes agrees came in
        let t = (node_at nodes need.leaf).dtype in
        let c = coding_of (node_at nodes need.leaf).kind in
        let r = (node_at nodes need.leaf).rows in
        let here : leaves_of outside t c r need.segment ≡ Some column.values = ap (option_and_then (decoded_as c t r)) there ∙ read in
        let F : ℕ → Type 0 = λ s. leaves_of outside t c r s ≡ Some column.values in
        let G : ℕ → Type 0 = λ k. leaves_of outside (node_at nodes k).dtype (coding_of (node_at nodes k).kind) (node_at nodes k).rows segment ≡ Some column.values in
        subst G same (subst F named here) ∙ ap (λ (x : ColumnData). Some x.values) is

eq_self : (n : ℕ) → (n == n) ≡ true
eq_self n = grind arith

pub kept_here : (old : List Kept) (n : ℕ) (column : ColumnData) → kept_at old n ≡ None → IsKept (old ++ record { node = n; column = column } ∷ []) n
kept_here old n column none = (column, kept_new old (record { node = n; column = column } ∷ []) n none ∙ ap (λ (b : Bool). if b then Some column else None) (eq_self n))

-- what is not kept later was not kept before
pub not_kept_before : (nodes : List Node) (wanted : List Wanted) (old new : List Kept) → KeepsLeaves nodes wanted old new → (n : ℕ) → kept_at new n ≡ None → kept_at old n ≡ None
not_kept_before nodes wanted old new keeps n none = by (kept_at old n) refl
  where
    by : (o : Option ColumnData) → kept_at old n ≡ o → o ≡ None
    by None e = refl
    by (Some column) e = absurd (some_none column (sym (keeps.grows n column e) ∙ none))
      where
        some_none : (x : ColumnData) → Some x ≡ None → ⊥
        some_none x h = cc

-- ---- only these leaves

pub adds_then : (P : ℕ → Type 0) (old mid new : List Kept) → AddsOnly P old mid → AddsOnly P mid new → AddsOnly P old new
adds_then P old mid new first second n kept = ⊎_elim (λ (k : IsKept mid n). first n k) (λ (p : P n). inr p) (second n kept)

pub need_added : (needs : List LeafRead) (need : LeafRead) (old new : List Kept) → Among need needs → AddsOnly (λ n. need.leaf ≡ n) old new → AddsOnly (IsNeededLeaf needs) old new
need_added needs need old new among only n kept = ⊎_elim (λ (k : IsKept old n). inl k) (λ (e : need.leaf ≡ n). inr (need, among, e)) (only n kept)

-- Whole values that were made or used, one more of them, and what selected rows ask for.
use Rattle.std.proofs.Common.{◌≡◌, ℕ, zero, suc, ◌<◌, ◌==◌, ◌⊎◌, inl, inr, ⊎_elim, Bool, true, false, List, [], ◌∷◌, ◌++◌, Option, Some, None, Result, Ok, Err, length, refl, sym, ap, ◌∙◌, subst, arith}
use Rattle.std.specs.Prelude.{if◌then◌else◌, IsSomeAnd, IfOk, IfErr}
use Rattle.std.specs.List.{slice_get}
use Rattle.vx_base.specs.Columns.{ColumnData}
use Rattle.vx_rows.specs.Derivations.{Leaves, derived_each, each_row}
use Rattle.vx_plan.specs.declared.shapes.Shape.{Shape}
use Rattle.vx_plan.specs.declared.shapes.Shape.TheVariants as shapes
use Rattle.vx_plan.specs.Nodes.{Node}
use Rattle.vx_plan.specs.Plans.{plan_at}
use Rattle.vx_plan.specs.Rules.{node_at}
use Rattle.vx_plan.specs.PlanRows.{plan_derivation}
use Rattle.vx_plan.specs.Shapes.{HasShape, ShapeOf}
use Rattle.vx_plan.specs.Tables.{IsGoodTable}
use Rattle.vx_steps.specs.declared.errors.StepError.{StepError}
use Rattle.vx_steps.specs.Computed.{Computes, ComputesWhole}
use Rattle.vx_steps.specs.Given.{whole_value}
use Rattle.vx_steps.specs.Held.{Held, IsBy, IsHeld, handed_in}
use Rattle.vx_steps.specs.KeptData.{Kept}
use Rattle.vx_steps.specs.Kept.{kept_at, IsKept}
use Rattle.vx_steps.specs.Wholes.{AddsOnly, IsWholeOf, KeepsValues, UsesGiven}
use Rattle.vx_steps.proofs.Apart.{apart_more}
use Rattle.vx_steps.proofs.ComputedRows.{VisitsUp, cause_up, share_whole}
use Rattle.vx_steps.proofs.Keeping.{kept_new, kept_old}
use Rattle.vx_steps.proofs.Premises.{is_by_for}
use Rattle.vx_steps.proofs.Shaping.{share_plan_at}

-- ---- one more column

-- what is kept after one more column was: an old one, or that one
kept_cases : (old : List Kept) (node : ℕ) (column : ColumnData) → (n : ℕ) (found : ColumnData) → kept_at (old ++ record { node = node; column = column } ∷ []) n ≡ Some found → (kept_at old n ≡ Some found) ⊎ ((node ≡ n) × (column ≡ found))
kept_cases old node column n found at = by_old (kept_at old n) refl
  where
    by_test : (b : Bool) → (node == n) ≡ b → (if b then Some column else None) ≡ Some found → (node ≡ n) × (column ≡ found)
    by_test false e h = absurd cc
    by_test true e h = (grind arith, cc)

    by_old : (o : Option ColumnData) → kept_at old n ≡ o → (kept_at old n ≡ Some found) ⊎ ((node ≡ n) × (column ≡ found))
    by_old None e = inr (by_test (node == n) refl (sym (kept_new old (record { node = node; column = column } ∷ []) n e) ∙ at))
    by_old (Some x) e = inl (e ∙ sym (kept_old old (record { node = node; column = column } ∷ []) n x e) ∙ at)

-- and that one is found
kept_one : (old : List Kept) (node : ℕ) (column : ColumnData) → kept_at old node ≡ None → kept_at (old ++ record { node = node; column = column } ∷ []) node ≡ Some column
kept_one old node column none =
    let same : (node == node) ≡ true = grind arith in
    kept_new old (record { node = node; column = column } ∷ []) node none ∙ ap (λ (b : Bool). if b then Some column else None) same

pub one_kept : (old new : List Kept) (node : ℕ) (column : ColumnData) → kept_at old node ≡ None → new ≡ old ++ record { node = node; column = column } ∷ [] → IsKept new node
one_kept old new node column none is = (column, ap (λ (kept : List Kept). kept_at kept node) is ∙ kept_one old node column none)

-- a column more is for its number
pub one_only : (old new : List Kept) (node : ℕ) (column : ColumnData) → new ≡ old ++ record { node = node; column = column } ∷ [] → AddsOnly (λ n. node ≡ n) old new
one_only old new node column is n (found, at) =
    ⊎_elim (λ (e : kept_at old n ≡ Some found). inl (found, e)) (λ (e : (node ≡ n) × (column ≡ found)). inr e.0) (kept_cases old node column n found (ap (λ (kept : List Kept). kept_at kept n) (sym is) ∙ at))

pub none_more : (P : ℕ → Type 0) (old new : List Kept) → new ≡ old → AddsOnly P old new
none_more P old new is n (found, at) = inl (found, ap (λ (kept : List Kept). kept_at kept n) (sym is) ∙ at)

-- ---- values that were handed in

pub uses_one : (given old new : List Kept) (node : ℕ) (column : ColumnData) → kept_at given node ≡ Some column → kept_at old node ≡ None → new ≡ old ++ record { node = node; column = column } ∷ [] → UsesGiven given old new
uses_one given old new node column there none is =
    let F : List Kept → Type 0 = UsesGiven given old in
    subst F (sym is) (record {
      grows = λ n found at. kept_old old (record { node = node; column = column } ∷ []) n found at;
      only = λ n found at. ⊎_elim (λ (e : kept_at old n ≡ Some found). inl e) (λ (e : (node ≡ n) × (column ≡ found)). inr (used n found e.0 e.1)) (kept_cases old node column n found at);
      apart = apart_more old (old ++ record { node = node; column = column } ∷ []) node column none refl;
    })
  where
    used : (n : ℕ) (found : ColumnData) → node ≡ n → column ≡ found → kept_at given n ≡ Some found
    used n found same e = ap (kept_at given) (sym same) ∙ there ∙ ap Some e

pub uses_then : (given old mid new : List Kept) → UsesGiven given old mid → UsesGiven given mid new → UsesGiven given old new
uses_then given old mid new first second = record {
  grows = λ n column at. second.grows n column (first.grows n column at);
  only = λ n column at. ⊎_elim (λ (e : kept_at mid n ≡ Some column). first.only n column e) (λ (e : kept_at given n ≡ Some column). inr e) (second.only n column at);
  apart = λ apart. second.apart (first.apart apart);
}

-- ---- values that were made

pub keeps_then : (nodes : List Node) (leaves : List Kept) (offset : ℕ) (old mid new : List Kept) → KeepsValues nodes leaves offset old mid → KeepsValues nodes leaves offset mid new → KeepsValues nodes leaves offset old new
keeps_then nodes leaves offset old mid new first second = record {
  grows = λ n column at. second.grows n column (first.grows n column at);
  typed = λ typed. second.typed (first.typed typed);
  apart = λ apart. second.apart (first.apart apart);
  right = λ by have made. second.right by have (first.right by have made);
}

pub keeps_same : (nodes : List Node) (leaves : List Kept) (offset : ℕ) (old new : List Kept) → new ≡ old → KeepsValues nodes leaves offset old new
keeps_same nodes leaves offset old new is =
    let F : List Kept → Type 0 = KeepsValues nodes leaves offset old in
    subst F (sym is) (record { grows = λ n column at. at; typed = λ typed. typed; apart = λ apart. apart; right = λ by have made. made })

-- the whole values of the number are those of the plan
record IsWholeAs (nodes : List Node) (offset number whole : ℕ) : Type 0 where
  dtype : (node_at nodes number).dtype ≡ (node_at nodes whole).dtype
  rows : (node_at nodes number).rows ≡ (node_at nodes whole).rows
  values : (by : Leaves) → whole_value by offset (plan_at nodes number) ≡ whole_value by offset (plan_at nodes whole)

pub shape_known : (nodes : List Node) (n : ℕ) (shape : Shape) → HasShape nodes n shape → n < length nodes
shape_known nodes n shape has = by nodes n has
  where
    by : (ns : List Node) (m : ℕ) → IsSomeAnd (slice_get ns m) (λ node. ShapeOf nodes n node shape) → m < length ns
    by [] m h = absurd h
    by (node ∷ ns) zero h = omega arith
    by (node ∷ ns) (suc m) h = omega (arith, by ns m h)

whole_as : (nodes : List Node) → IsGoodTable nodes → (offset number whole : ℕ) → IsWholeOf nodes number whole → IsWholeAs nodes offset number whole
whole_as nodes good offset number whole (inl same) = record {
  dtype = ap (λ (n : ℕ). (node_at nodes n).dtype) same;
  rows = ap (λ (n : ℕ). (node_at nodes n).rows) same;
  values = λ by. ap (λ (n : ℕ). whole_value by offset (plan_at nodes n)) same;
}
whole_as nodes good offset number whole (inr has) =
    let over = share_plan_at nodes good number whole (shape_known nodes number (shapes.Shared whole) has) has in
    let h : Held = record { nodes = nodes; leaves = []; given = None; made = []; offset = offset } in
    record {
      dtype = over.like.dtype;
      rows = over.like.rows;
      values = λ by. share_whole h by number whole over ∙ ap (λ (rows : ℕ). derived_each by (each_row (plan_derivation offset (plan_at nodes whole)) 0 rows)) (sym (ap (λ h. h.rows) over.child_head));
    }

pub made_one : (nodes : List Node) → IsGoodTable nodes → (leaves : List Kept) (offset : ℕ) (given : Option (List Kept)) (old new : List Kept) (number whole : ℕ) (column : ColumnData) → IsWholeOf nodes number whole → column.dtype ≡ (node_at nodes whole).dtype → length column.values ≡ (node_at nodes whole).rows → kept_at old number ≡ None →
    ComputesWhole (record { nodes = nodes; leaves = leaves; given = given; made = old; offset = offset }) whole (Ok column) → new ≡ old ++ record { node = number; column = column } ∷ [] → KeepsValues nodes leaves offset old new
made_one nodes good leaves offset given old new number whole column of dtype rows none computed is =
    let alike = whole_as nodes good offset number whole of in
    let F : List Kept → Type 0 = KeepsValues nodes leaves offset old in
    subst F (sym is) (record {
      grows = λ n found at. kept_old old (record { node = number; column = column } ∷ []) n found at;
      typed = λ typed n found at. ⊎_elim (λ (e : kept_at old n ≡ Some found). typed n found e) (λ (e : (number ≡ n) × (column ≡ found)). new_typed alike n found e.0 e.1) (kept_cases old number column n found at);
      apart = apart_more old (old ++ record { node = number; column = column } ∷ []) number column none refl;
      right = λ by have made n found at. ⊎_elim (λ (e : kept_at old n ≡ Some found). made n found e) (λ (e : (number ≡ n) × (column ≡ found)). new_right alike by (record { leaves_are = have; made_are = made }) n found e.0 e.1) (kept_cases old number column n found at);
    })
  where
    h : Held
    h = record { nodes = nodes; leaves = leaves; given = given; made = old; offset = offset }

    new_typed : IsWholeAs nodes offset number whole → (n : ℕ) (found : ColumnData) → number ≡ n → column ≡ found → (found.dtype ≡ (node_at nodes n).dtype) × (length found.values ≡ (node_at nodes n).rows)
    new_typed alike n found same e =
        let P : ℕ → Type 0 = λ k. (found.dtype ≡ (node_at nodes k).dtype) × (length found.values ≡ (node_at nodes k).rows) in
        let Q : ColumnData → Type 0 = λ x. (x.dtype ≡ (node_at nodes number).dtype) × (length x.values ≡ (node_at nodes number).rows) in
        subst P same (subst Q e (dtype ∙ sym alike.dtype, rows ∙ sym alike.rows))

    new_right : IsWholeAs nodes offset number whole → (by : Leaves) → IsBy h by → (n : ℕ) (found : ColumnData) → number ≡ n → column ≡ found → whole_value by offset (plan_at nodes n) ≡ Some found.values
    new_right alike by are n found same e =
        let P : ℕ → Type 0 = λ k. whole_value by offset (plan_at nodes k) ≡ Some column.values in
        subst P same (alike.values by ∙ computed by are) ∙ ap (λ (x : ColumnData). Some x.values) e

-- ---- faults

abbrev pub holding : List Node → List Kept → Option (List Kept) → ℕ → List Kept → Held
holding nodes leaves given offset made = record { nodes = nodes; leaves = leaves; given = given; made = made; offset = offset }

-- what is held stays right with more values
pub held_by : (nodes : List Node) (leaves : List Kept) (given : Option (List Kept)) (offset : ℕ) (old new : List Kept) → KeepsValues nodes leaves offset old new → IsHeld (holding nodes leaves given offset old) → IsHeld (holding nodes leaves given offset new)
held_by nodes leaves given offset old new keeps are = record { leaves = are.leaves; given = are.given; made = keeps.typed are.made; offset = are.offset }

-- what is computed from more values is by the leaves that the old ones are by
pub computed_by : (nodes : List Node) (leaves : List Kept) (given : Option (List Kept)) (offset : ℕ) (old new : List Kept) → KeepsValues nodes leaves offset old new → (n start : ℕ) (bits : List Bool) (result : Result ColumnData StepError) → Computes (holding nodes leaves given offset new) n start bits result → Computes (holding nodes leaves given offset old) n start bits result
computed_by nodes leaves given offset old new keeps n start bits result computed by are =
    computed by (is_by_for (holding nodes leaves given offset old) (holding nodes leaves given offset new) by (λ is. record { leaves_are = is.leaves_are; made_are = keeps.right by is.leaves_are is.made_are }) result are)

pub ok_computed : (h : Held) (n start : ℕ) (bits : List Bool) (result : Result ColumnData StepError) → Computes h n start bits result → IfOk result (λ column. Computes h n start bits (Ok column))
ok_computed h n start bits (Ok column) computed = computed
ok_computed h n start bits (Err error) computed = tt

pub err_computed : (h : Held) (n start : ℕ) (bits : List Bool) (result : Result ColumnData StepError) → Computes h n start bits result → IfErr result (λ error. Computes h n start bits (Err error))
err_computed h n start bits (Ok column) computed = tt
err_computed h n start bits (Err error) computed = computed

pub any_err : (result : Result ColumnData StepError) (P : StepError → Type 0) → ((error : StepError) → P error) → IfErr result P
any_err (Ok column) P all = tt
any_err (Err error) P all = all error

-- the child's fault is the plan's
pub error_by : (h : Held) (child start : ℕ) (bits : List Bool) (n start2 : ℕ) (bits2 : List Bool) → VisitsUp (handed_in h) (plan_at h.nodes child) start bits (handed_in h) (plan_at h.nodes n) start2 bits2 → (error : StepError) → Computes h child start bits (Err error) → Computes h n start2 bits2 (Err error)
error_by h child start bits n start2 bits2 up error computed by are = cause_up by h.offset (handed_in h) (plan_at h.nodes child) start bits (handed_in h) (plan_at h.nodes n) start2 bits2 up error (computed by are)

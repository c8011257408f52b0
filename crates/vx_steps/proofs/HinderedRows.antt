-- What hinders so many rows of a plan, kind by kind.
use Rattle.std.proofs.Common.{◌≡◌, ℕ, suc, ◌+◌, ◌-◌, ◌<◌, ◌≤◌, ◌⊎◌, inl, inr, ⊎_elim, Bool, true, List, [], ◌∷◌, Option, Some, None, length, map, refl, sym, ap, ◌∙◌, subst, arith}
use Rattle.std.specs.List.{slice_get}
use Rattle.std.proofs.lemmas.Bool.{cases_lt}
use Rattle.std.proofs.lemmas.Option.{slice_get_within}
use Rattle.vx_plan.specs.Kinds.{coding_of}
use Rattle.vx_plan.specs.Nodes.{Node}
use Rattle.vx_plan.specs.Plans.{Plan, plan_head, plan_at, plans_from, field_plans, last_validity, filter_plan, pack_plan, pruning_plan, row_idx_plan, scan_plan, share_plan, take_plan}
use Rattle.vx_plan.specs.Rules.{node_at}
use Rattle.vx_plan.specs.Tables.{IsGoodTable}
use Rattle.vx_plan.specs.declared.chunks.Chunk.{Chunk}
use Rattle.vx_steps.specs.declared.hindrances.Hindrance.{Hindrance}
use Rattle.vx_steps.specs.declared.hindrances.Hindrance.TheVariants as hindrances
use Rattle.vx_plan.specs.Chunks.{IsChunk}
use Rattle.vx_steps.specs.Hindrances.{AreHindered, IsHindrance, IsOne, IsRun}
use Rattle.vx_steps.specs.Visits.{SomeVisit, Visits}
use Rattle.vx_steps.proofs.ChunkRows.{chunk_down, chunk_up, IsConcatPlan}
use Rattle.vx_steps.proofs.Selecting.{only_right}
use Rattle.vx_steps.proofs.Shaping.{head_of, IsLeafPlan, IsOverPlan, IsPackPlan, IsPruningPlan, IsSharePlan, IsTakePlan, IsZonedPlan}
use Rattle.vx_steps.proofs.Visiting.{any_packed, child_any, packed_any, AnyVisits}

-- it hinders one of so many rows of this plan
abbrev pub Hindered : ℕ → Hindrance → ℕ → ℕ → Plan → Type 0
Hindered places x start count p = (place : ℕ) × (place < count) × Visits (IsHindrance places x) None p (start + place)

-- ---- one, or none

pub one_as : (P Q : Hindrance → Type 0) → ((x : Hindrance) → P x → Q x) → ((x : Hindrance) → Q x → P x) → (found : Option Hindrance) → IsOne P found → IsOne Q found
one_as P Q to from None none = λ x is. none x (from x is)
one_as P Q to from (Some x) one = to x one

-- the second, where the first is none
pub one_then : (P Q : Hindrance → Type 0) → IsOne P None → (found : Option Hindrance) → IsOne Q found → IsOne (λ x. P x ⊎ Q x) found
one_then P Q first None second = λ x either. ⊎_elim (λ (p : P x). first x p) (λ (q : Q x). second x q) either
one_then P Q first (Some x) second = inr second

pub no_rows : (places : ℕ) (nodes : List Node) (n start : ℕ) → IsOne (AreHindered places nodes n start 0) None
no_rows places nodes n start x (place, less, v) = omega (arith, less)

-- ---- the plan itself

pub placed_leaf : (places : ℕ) (nodes : List Node) (n segment start count : ℕ) → IsLeafPlan nodes n segment → segment < places → IsOne (AreHindered places nodes n start count) None
placed_leaf places nodes n segment start count over inside x r = absurd (not x (subst (Hindered places x start count) over.law r))
  where
    not : (y : Hindrance) → Hindered places y start count (scan_plan (head_of nodes n) segment (coding_of (node_at nodes n).kind)) → ⊥
    not (hindrances.List list) (place, less, v) = v
    not (hindrances.Segment other) (place, less, v) = let past = v.1 in omega (arith, past, inside)

pub unplaced_leaf : (places : ℕ) (nodes : List Node) (n segment start count : ℕ) → IsLeafPlan nodes n segment → 0 < count → places ≤ segment → IsOne (AreHindered places nodes n start count) (Some (hindrances.Segment segment))
unplaced_leaf places nodes n segment start count over some past = subst (Hindered places (hindrances.Segment segment) start count) (sym over.law) (0, some, (refl, past))

pub list_rows : (places : ℕ) (nodes : List Node) (n start count : ℕ) (p : Plan) → plan_at nodes n ≡ p → ((row : ℕ) → Visits (IsHindrance places (hindrances.List n)) None p row) → 0 < count → IsOne (AreHindered places nodes n start count) (Some (hindrances.List n))
list_rows places nodes n start count p law is some = subst (Hindered places (hindrances.List n) start count) (sym law) (0, some, is (start + 0))

pub numbers_rows : (places : ℕ) (nodes : List Node) (n start count : ℕ) → plan_at nodes n ≡ row_idx_plan (head_of nodes n) → IsOne (AreHindered places nodes n start count) None
numbers_rows places nodes n start count law x r =
    let own : Hindered places x start count (row_idx_plan (head_of nodes n)) = subst (Hindered places x start count) law r in
    own.2

-- ---- the rows of one child

-- a plan that is no leaf and no list visits what its child's row visits
abbrev VisitsAlike : ℕ → Plan → Plan → Type 0
VisitsAlike places p q = (x : Hindrance) (row : ℕ) → (Visits (IsHindrance places x) None q row → Visits (IsHindrance places x) None p row) × (Visits (IsHindrance places x) None p row → Visits (IsHindrance places x) None q row)

child_rows : (places : ℕ) (nodes : List Node) (n child start count : ℕ) (p : Plan) (found : Option Hindrance) → plan_at nodes n ≡ p → VisitsAlike places p (plan_at nodes child) → IsOne (AreHindered places nodes child start count) found → IsOne (AreHindered places nodes n start count) found
child_rows places nodes n child start count p found law alike one = one_as (AreHindered places nodes child start count) (AreHindered places nodes n start count) up down found one
  where
    up : (x : Hindrance) → AreHindered places nodes child start count x → AreHindered places nodes n start count x
    up x r = subst (Hindered places x start count) (sym law) (r.0, r.1, (alike x (start + r.0)).0 r.2)

    down : (x : Hindrance) → AreHindered places nodes n start count x → AreHindered places nodes child start count x
    down x r =
        let r2 : Hindered places x start count p = subst (Hindered places x start count) law r in
        (r2.0, r2.1, (alike x (start + r2.0)).1 r2.2)

pub same_rows : (places : ℕ) (nodes : List Node) (n child start count : ℕ) (found : Option Hindrance) → plan_at nodes n ≡ filter_plan (head_of nodes n) (plan_at nodes child) → IsOne (AreHindered places nodes child start count) found → IsOne (AreHindered places nodes n start count) found
same_rows places nodes n child start count found law one = child_rows places nodes n child start count (filter_plan (head_of nodes n) (plan_at nodes child)) found law (λ x row. (λ v. inr v, λ v. only_right v)) one

pub zoned_rows : (places : ℕ) (nodes : List Node) (n content table start count : ℕ) (found : Option Hindrance) → IsZonedPlan nodes n content table → IsOne (AreHindered places nodes content start count) found → IsOne (AreHindered places nodes n start count) found
zoned_rows places nodes n content table start count found over one = child_rows places nodes n content start count _ found over.law (λ x row. (λ v. inr v, λ v. only_right v)) one

pub over_rows : (places : ℕ) (nodes : List Node) (n child start count : ℕ) (found : Option Hindrance) → IsOverPlan nodes n child → IsOne (AreHindered places nodes child start count) found → IsOne (AreHindered places nodes n start count) found
over_rows places nodes n child start count found over one = child_rows places nodes n child start count _ found over.plan.law (λ x row. (λ v. inr v, λ v. only_right v)) one

-- ---- zones

pub pruned_rows : (places : ℕ) (nodes : List Node) (n table start count rows : ℕ) (found : Option Hindrance) → IsPruningPlan nodes n table → 0 < count → rows ≡ (node_at nodes table).rows → IsOne (AreHindered places nodes table 0 rows) found → IsOne (AreHindered places nodes n start count) found
pruned_rows places nodes n table start count rows found over some same one =
    one_as (AreHindered places nodes table 0 rows) (AreHindered places nodes n start count) up (λ x r. down x (subst (Hindered places x start count) over.law r)) found one
  where
    up : (x : Hindrance) → AreHindered places nodes table 0 rows x → AreHindered places nodes n start count x
    up x r =
        let small : r.0 < rows = r.1 in
        let inside : 0 + r.0 < (node_at nodes table).rows = omega arith in
        let less : 0 + r.0 < (plan_head (plan_at nodes table)).rows = rw over.table_head inside in
        subst (Hindered places x start count) (sym over.law) (0, some, inr (0 + r.0, less, r.2))

    down : (x : Hindrance) → Hindered places x start count (pruning_plan (head_of nodes n) over.pruning (plan_at nodes table)) → AreHindered places nodes table 0 rows x
    down x (place, less, inl none) = absurd none
    down x (place, less, inr w) =
        let inside : w.0 < (node_at nodes table).rows = rw over.table_head at w.1 in
        let here : w.0 ≡ 0 + w.0 = omega arith in
        (w.0, omega arith, subst (Visits (IsHindrance places x) None (plan_at nodes table)) here w.2)

-- ---- whole values

module _ (places : ℕ) (nodes : List Node) (n codes values start count rows : ℕ) (over : IsTakePlan nodes n codes values) (some : 0 < count) (same : rows ≡ (node_at nodes values).rows) where
  take_up : (x : Hindrance) → AreHindered places nodes codes start count x ⊎ AreHindered places nodes values 0 rows x → AreHindered places nodes n start count x
  take_up x (inl r) = subst (Hindered places x start count) (sym over.law) (r.0, r.1, inr (inl r.2))
  take_up x (inr r) =
      let small : r.0 < rows = r.1 in
      let inside : 0 + r.0 < (node_at nodes values).rows = omega arith in
      let less : 0 + r.0 < (plan_head (plan_at nodes values)).rows = rw over.values_head inside in
      subst (Hindered places x start count) (sym over.law) (0, some, inr (inr (refl, (0 + r.0, less, r.2))))

  take_down : (x : Hindrance) → Hindered places x start count (take_plan (head_of nodes n) (plan_at nodes codes) (plan_at nodes values)) → AreHindered places nodes codes start count x ⊎ AreHindered places nodes values 0 rows x
  take_down x (place, less, inl none) = absurd none
  take_down x (place, less, inr (inl v)) = inl (place, less, v)
  take_down x (place, less, inr (inr w)) =
      let inside : w.1.0 < (node_at nodes values).rows = rw over.values_head at w.1.1 in
      let here : w.1.0 ≡ 0 + w.1.0 = omega arith in
      inr (w.1.0, omega arith, subst (λ (row : ℕ). Visits (IsHindrance places x) None (plan_at nodes values) row) here w.1.2)

  -- of the codes
  pub codes_rows : (x : Hindrance) → IsOne (AreHindered places nodes codes start count) (Some x) → IsOne (AreHindered places nodes n start count) (Some x)
  codes_rows x one = take_up x (inl one)

  -- or else of the values
  pub take_rows : (found : Option Hindrance) → IsOne (AreHindered places nodes codes start count) None → IsOne (AreHindered places nodes values 0 rows) found → IsOne (AreHindered places nodes n start count) found
  take_rows found first second =
      one_as (λ x. AreHindered places nodes codes start count x ⊎ AreHindered places nodes values 0 rows x) (AreHindered places nodes n start count) take_up (λ x r. take_down x (subst (Hindered places x start count) over.law r)) found
      (one_then (AreHindered places nodes codes start count) (AreHindered places nodes values 0 rows) first found second)

pub share_rows : (places : ℕ) (nodes : List Node) (n child start count rows : ℕ) (found : Option Hindrance) → IsSharePlan nodes n child → 0 < count → rows ≡ (node_at nodes child).rows → IsOne (AreHindered places nodes child 0 rows) found → IsOne (AreHindered places nodes n start count) found
share_rows places nodes n child start count rows found over some same one =
    one_as (AreHindered places nodes child 0 rows) (AreHindered places nodes n start count) up (λ x r. down x (subst (Hindered places x start count) over.law r)) found one
  where
    up : (x : Hindrance) → AreHindered places nodes child 0 rows x → AreHindered places nodes n start count x
    up x r =
        let small : r.0 < rows = r.1 in
        let inside : 0 + r.0 < (node_at nodes child).rows = omega arith in
        let less : 0 + r.0 < (plan_head (plan_at nodes child)).rows = rw over.child_head inside in
        subst (Hindered places x start count) (sym over.law) (0, some, inr (refl, (0 + r.0, less, r.2)))

    down : (x : Hindrance) → Hindered places x start count (share_plan (head_of nodes n) (plan_at nodes child)) → AreHindered places nodes child 0 rows x
    down x (place, less, inl none) = absurd none
    down x (place, less, inr w) =
        let inside : w.1.0 < (node_at nodes child).rows = rw over.child_head at w.1.1 in
        let here : w.1.0 ≡ 0 + w.1.0 = omega arith in
        (w.1.0, omega arith, subst (λ (row : ℕ). Visits (IsHindrance places x) None (plan_at nodes child) row) here w.1.2)

-- ---- fields

-- it hinders one of the children in front of the place
abbrev pub FieldsHindered : ℕ → List Node → List ℕ → ℕ → ℕ → ℕ → Hindrance → Type 0
FieldsHindered places nodes children place start count x = (p : ℕ) × (child : ℕ) × (p < place) × (slice_get children p ≡ Some child) × AreHindered places nodes child start count x

pub no_fields : (places : ℕ) (nodes : List Node) (children : List ℕ) (start count : ℕ) → IsOne (FieldsHindered places nodes children 0 start count) None
no_fields places nodes children start count x (p, child, less, at, r) = omega (arith, less)

pub field_more : (places : ℕ) (nodes : List Node) (children : List ℕ) (place here start count : ℕ) → slice_get children place ≡ Some here → IsOne (FieldsHindered places nodes children place start count) None → IsOne (AreHindered places nodes here start count) None → IsOne (FieldsHindered places nodes children (place + 1) start count) None
field_more places nodes children place here start count at first second x (p, child, less, is, r) =
    ⊎_elim (λ (before : p < place). first x (p, child, before, is, r)) (λ (past : place ≤ p). last past) (cases_lt p place)
  where
    last : place ≤ p → ⊥
    last past =
        let same : p ≡ place = omega arith in
        let at_here : slice_get children place ≡ Some child = ap (slice_get children) (sym same) ∙ is in
        let one : child ≡ here = cc in
        second x (subst (λ (k : ℕ). AreHindered places nodes k start count x) one r)

any_child : (places : ℕ) (nodes : List Node) (ns : List ℕ) (x : Hindrance) (row : ℕ) → AnyVisits (IsHindrance places x) None (map (plan_at nodes) ns) row → (p : ℕ) × (child : ℕ) × (p < length ns) × (slice_get ns p ≡ Some child) × Visits (IsHindrance places x) None (plan_at nodes child) row
any_child places nodes [] x row none = absurd none
any_child places nodes (n ∷ ns) x row (inl v) = (0, n, omega arith, refl, v)
any_child places nodes (n ∷ ns) x row (inr a) =
    let c = any_child places nodes ns x row a in
    let less : c.0 < length ns = c.2 in
    (suc c.0, c.1, omega arith, c.3, c.4)

-- one child of a pack
pub field_rows : (places : ℕ) (nodes : List Node) (n place child start count : ℕ) (x : Hindrance) → IsPackPlan nodes n → slice_get (node_at nodes n).children place ≡ Some child → IsOne (AreHindered places nodes child start count) (Some x) → IsOne (AreHindered places nodes n start count) (Some x)
field_rows places nodes n place child start count x over at r =
    subst (Hindered places x start count) (sym over.law)
    (r.0, r.1, inr (any_packed (IsHindrance places x) None over.has_validity (map (plan_at nodes) (node_at nodes n).children) (start + r.0) (child_any (IsHindrance places x) None nodes (node_at nodes n).children place child (start + r.0) at r.2)))

-- all children of a pack were gone through
pub pack_rows : (places : ℕ) (nodes : List Node) (n place start count : ℕ) → IsPackPlan nodes n → length (node_at nodes n).children ≤ place → IsOne (FieldsHindered places nodes (node_at nodes n).children place start count) None → IsOne (AreHindered places nodes n start count) None
pack_rows places nodes n place start count over past none x r = down (subst (Hindered places x start count) over.law r)
  where
    ns : List ℕ
    ns = (node_at nodes n).children

    ps : List Plan
    ps = map (plan_at nodes) (node_at nodes n).children

    down : Hindered places x start count (pack_plan (head_of nodes n) (plans_from (field_plans over.has_validity ps)) (last_validity over.has_validity ps)) → ⊥
    down (at, less, inl own) = own
    down (at, less, inr v) =
        let c = any_child places nodes ns x (start + at) (packed_any (IsHindrance places x) None over.has_validity ps (start + at) (λ row gap. gap) v) in
        let inside : c.0 < length ns = c.2 in
        none x (c.0, c.1, omega arith, c.3, (at, less, c.4))

-- ---- chunks

module _ (places : ℕ) (nodes : List Node) (good : IsGoodTable nodes) (n start done here : ℕ) (chunk : Chunk) (is : IsChunk nodes n (start + done) chunk) (over : IsConcatPlan nodes n) (fits : here ≤ chunk.end - (start + done)) where
  end : chunk.end ≡ chunk.start + (node_at nodes chunk.child).rows
  end = is.end

  low : chunk.start ≤ start + done
  low = is.at_most

  -- of the child, as rows of the concat
  pub chunk_rows : (count : ℕ) (x : Hindrance) → done + here ≤ count → IsOne (AreHindered places nodes chunk.child (start + done - chunk.start) here) (Some x) → IsOne (AreHindered places nodes n start count) (Some x)
  chunk_rows count x within (place, less, v) =
      let ends = end in
      let starts = low in
      let same : chunk.start + (start + done - chunk.start + place) ≡ start + (done + place) = omega (arith, starts) in
      let F : ℕ → Type 0 = Visits (IsHindrance places x) None (plan_at nodes n) in
      (done + place, omega (arith, within, less), subst F same (chunk_up (IsHindrance places x) None nodes good n (start + done) chunk is over (start + done - chunk.start + place) (omega (arith, starts, ends, less, fits)) v))

  later : (x : Hindrance) (place : ℕ) → place < done + here → done ≤ place → Visits (IsHindrance places x) None (plan_at nodes n) (start + place) → AreHindered places nodes chunk.child (start + done - chunk.start) here x
  later x place less past v =
      let ends = end in
      let starts = low in
      let same : start + place ≡ chunk.start + (start + done - chunk.start + (place - done)) = omega (arith, starts, past) in
      let F : ℕ → Type 0 = Visits (IsHindrance places x) None (plan_at nodes n) in
      let row : Visits (IsHindrance places x) None (plan_at nodes chunk.child) (start + done - chunk.start + (place - done)) =
      only_right (chunk_down (IsHindrance places x) None nodes good n (start + done) chunk is over (start + done - chunk.start + (place - done)) (omega (arith, starts, ends, less, past, fits)) (subst F same v)) in
      (place - done, omega (arith, less, past), row)

  pub chunks_more : IsOne (AreHindered places nodes n start done) None → IsOne (AreHindered places nodes chunk.child (start + done - chunk.start) here) None → IsOne (AreHindered places nodes n start (done + here)) None
  chunks_more first second x (place, less, v) =
      ⊎_elim (λ (before : place < done). first x (place, before, v)) (λ (past : done ≤ place). second x (later x place less past v)) (cases_lt place done)

pub chunks_done : (places : ℕ) (nodes : List Node) (n start done count : ℕ) → count ≤ done → IsOne (AreHindered places nodes n start done) None → IsOne (AreHindered places nodes n start count) None
chunks_done places nodes n start done count past none x (place, less, v) = none x (place, omega (arith, less, past), v)

-- ---- selected rows

-- one row
pub row_hindered : (places : ℕ) (nodes : List Node) (n row : ℕ) (x : Hindrance) → AreHindered places nodes n row 1 x → Visits (IsHindrance places x) None (plan_at nodes n) row
row_hindered places nodes n row x (place, less, v) =
    let same : row + place ≡ row = omega (arith, less) in
    subst (Visits (IsHindrance places x) None (plan_at nodes n)) same v

-- none of the first so many selected rows is hindered
abbrev pub NoneBefore : ℕ → List Node → ℕ → ℕ → List Bool → ℕ → Type 0
NoneBefore places nodes n start bits before = (x : Hindrance) (place : ℕ) → place < before → slice_get bits place ≡ Some true → Visits (IsHindrance places x) None (plan_at nodes n) (start + place) → ⊥

pub none_first : (places : ℕ) (nodes : List Node) (n start : ℕ) (bits : List Bool) → NoneBefore places nodes n start bits 0
none_first places nodes n start bits x place less at v = omega (arith, less)

-- a run of selected rows of which one is hindered
pub run_hindered : (places : ℕ) (nodes : List Node) (n start : ℕ) (bits : List Bool) (first end : ℕ) (x : Hindrance) → IsRun bits first end → slice_get bits first ≡ Some true → AreHindered places nodes n (start + first) (end - first) x → SomeVisit (IsHindrance places x) None (plan_at nodes n) start bits
run_hindered places nodes n start bits first end x run on (place, less, v) =
    let row : start + first + place ≡ start + (first + place) = omega arith in
    (first + place, run (first + place) (omega arith) (omega (arith, less)) ∙ on, subst (Visits (IsHindrance places x) None (plan_at nodes n)) row v)

-- the next run is none of them, or isn't selected
pub none_next : (places : ℕ) (nodes : List Node) (n start : ℕ) (bits : List Bool) (first end : ℕ) → NoneBefore places nodes n start bits first → IsRun bits first end → (slice_get bits first ≡ Some true → IsOne (AreHindered places nodes n (start + first) (end - first)) None) → NoneBefore places nodes n start bits end
none_next places nodes n start bits first end before run here x place less at v =
    ⊎_elim (λ (earlier : place < first). before x place earlier at v) (λ (past : first ≤ place). inside past) (cases_lt place first)
  where
    inside : first ≤ place → ⊥
    inside past =
        let row : start + place ≡ start + first + (place - first) = omega (arith, past) in
        here (sym (run place past less) ∙ at) x (place - first, omega (arith, past, less), subst (Visits (IsHindrance places x) None (plan_at nodes n)) row v)

pub none_all : (places : ℕ) (nodes : List Node) (n start : ℕ) (bits : List Bool) (before : ℕ) → length bits ≤ before → NoneBefore places nodes n start bits before → IsOne (λ x. SomeVisit (IsHindrance places x) None (plan_at nodes n) start bits) None
none_all places nodes n start bits before past none x (place, at, v) =
    let inside : place < length bits = slice_get_within bits place true at in
    none x place (omega (arith, past, inside)) at v

-- where no row of the range is hindered, no selected one is
pub none_selected : (places : ℕ) (nodes : List Node) (n start : ℕ) (bits : List Bool) → IsOne (AreHindered places nodes n start (length bits)) None → IsOne (λ x. SomeVisit (IsHindrance places x) None (plan_at nodes n) start bits) None
none_selected places nodes n start bits none x (place, at, v) = none x (place, slice_get_within bits place true at, v)

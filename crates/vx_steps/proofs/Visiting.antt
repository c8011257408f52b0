-- Visits of a plan's selected rows and of its children's, whatever is tested.
use Rattle.std.proofs.Common.{◌≡◌, ℕ, zero, suc, ◌+◌, ◌<◌, ◌⊎◌, inl, inr, ⊎_elim, Bool, true, false, List, [], ◌∷◌, Option, Some, map, refl, sym, subst, arith}
use Rattle.std.specs.List.{slice_get}
use Rattle.vx_picking.specs.Rows.{SelectsSome}
use Rattle.vx_plan.specs.Nodes.{Node}
use Rattle.vx_plan.specs.Plans.{Plan, plan_head, plan_at, plans_from, field_plans, last_validity, plan_gap, front_plans, last_plan, filter_plan}
use Rattle.vx_plan.specs.Reaches.{all_rows}
use Rattle.vx_plan.specs.Rules.{node_at}
use Rattle.vx_steps.specs.Given.{Handed, handed_by}
use Rattle.vx_steps.specs.KeptData.{Kept}
use Rattle.vx_steps.specs.Needs.{NoneGiven}
use Rattle.vx_steps.specs.Visits.{Test, Visits, VisitsField, VisitsValidity, SomeVisit, SomeWholeVisit}
use Rattle.vx_steps.proofs.ComputedRows.{VisitsUp}
use Rattle.vx_steps.proofs.Selecting.{given_none}
use Rattle.vx_steps.proofs.Shaping.{head_of, IsOverPlan, IsPruningPlan, IsSharePlan, IsTakePlan, IsZonedPlan}

abbrev pub RowVisits : Test → Handed → ℕ → List Bool → Plan → Type 0
RowVisits P handed start bits p = SomeVisit P handed p start bits

-- ---- the same rows of a child

pub up_same : (nodes : List Node) (handed : Handed) (n child start : ℕ) (bits : List Bool) → plan_at nodes n ≡ filter_plan (head_of nodes n) (plan_at nodes child) → VisitsUp handed (plan_at nodes child) start bits handed (plan_at nodes n) start bits
up_same nodes handed n child start bits law P r = subst (RowVisits P handed start bits) (sym law) (r.0, r.1, inr r.2)

pub up_zoned : (nodes : List Node) (handed : Handed) (n content table start : ℕ) (bits : List Bool) → IsZonedPlan nodes n content table → VisitsUp handed (plan_at nodes content) start bits handed (plan_at nodes n) start bits
up_zoned nodes handed n content table start bits over P r = subst (RowVisits P handed start bits) (sym over.law) (r.0, r.1, inr r.2)

pub up_over : (nodes : List Node) (handed : Handed) (n child start : ℕ) (bits : List Bool) → IsOverPlan nodes n child → VisitsUp handed (plan_at nodes child) start bits handed (plan_at nodes n) start bits
up_over nodes handed n child start bits over P r = subst (RowVisits P handed start bits) (sym over.plan.law) (r.0, r.1, inr r.2)

pub up_codes : (nodes : List Node) (handed : Handed) (n codes values start : ℕ) (bits : List Bool) → IsTakePlan nodes n codes values → VisitsUp handed (plan_at nodes codes) start bits handed (plan_at nodes n) start bits
up_codes nodes handed n codes values start bits over P r = subst (RowVisits P handed start bits) (sym over.law) (r.0, r.1, inr (inl r.2))

-- ---- whole values, where none were handed in for them

pub up_values : (nodes : List Node) (given : Option (List Kept)) (n codes values start : ℕ) (bits : List Bool) → IsTakePlan nodes n codes values → SelectsSome bits → NoneGiven given values → (P : Test) → SomeWholeVisit P (plan_at nodes values) (node_at nodes values).rows → SomeVisit P (handed_by nodes given) (plan_at nodes n) start bits
up_values nodes given n codes values start bits over some none P w =
    let less : w.0 < (plan_head (plan_at nodes values)).rows = rw over.values_head w.1 in
    subst (RowVisits P (handed_by nodes given) start bits) (sym over.law) (some.0, some.1, inr (inr (given_none nodes given n values over.given none, (w.0, less, w.2))))

pub up_shared : (nodes : List Node) (given : Option (List Kept)) (n child start : ℕ) (bits : List Bool) → IsSharePlan nodes n child → SelectsSome bits → NoneGiven given n → (P : Test) → SomeWholeVisit P (plan_at nodes child) (node_at nodes child).rows → SomeVisit P (handed_by nodes given) (plan_at nodes n) start bits
up_shared nodes given n child start bits over some none P w =
    let less : w.0 < (plan_head (plan_at nodes child)).rows = rw over.child_head w.1 in
    subst (RowVisits P (handed_by nodes given) start bits) (sym over.law) (some.0, some.1, inr (given_none nodes given n n over.given none, (w.0, less, w.2)))

-- ---- all rows

pub all_chosen : (count row : ℕ) → row < count → slice_get (all_rows count) row ≡ Some true
all_chosen zero row less = absurd (omega arith)
all_chosen (suc count) zero less = refl
all_chosen (suc count) (suc row) less = all_chosen count row (omega arith)

pub chosen_below : (count row : ℕ) → slice_get (all_rows count) row ≡ Some true → row < count
chosen_below zero row at = absurd cc
chosen_below (suc count) zero at = omega arith
chosen_below (suc count) (suc row) at = let less : row < count = chosen_below count row at in omega arith

pub some_of_all : (P : Test) (handed : Handed) (p : Plan) (count row : ℕ) → row < count → Visits P handed p row → SomeVisit P handed p 0 (all_rows count)
some_of_all P handed p count row less v =
    let e : row ≡ 0 + row = omega arith in
    (row, all_chosen count row less, subst (Visits P handed p) e v)

-- zones by which rows may be pruned
pub up_zones : (nodes : List Node) (handed : Handed) (n table start : ℕ) (bits : List Bool) → IsPruningPlan nodes n table → SelectsSome bits → VisitsUp handed (plan_at nodes table) 0 (all_rows (node_at nodes table).rows) handed (plan_at nodes n) start bits
up_zones nodes handed n table start bits over some P r =
    let small : r.0 < (node_at nodes table).rows = chosen_below (node_at nodes table).rows r.0 r.1 in
    let inside : 0 + r.0 < (node_at nodes table).rows = omega arith in
    let less : 0 + r.0 < (plan_head (plan_at nodes table)).rows = rw over.table_head inside in
    subst (RowVisits P handed start bits) (sym over.law) (some.0, some.1, inr (0 + r.0, less, r.2))

-- ---- fields

-- a row of one of these has the visit
abbrev pub AnyVisits : Test → Handed → List Plan → ℕ → Type 0
AnyVisits P handed [] row = ⊥
AnyVisits P handed (p ∷ ps) row = Visits P handed p row ⊎ AnyVisits P handed ps row

field_any : (P : Test) (handed : Handed) (ps : List Plan) (row : ℕ) → VisitsField P handed (plans_from ps) row → AnyVisits P handed ps row
field_any P handed [] row none = none
field_any P handed (p ∷ ps) row (inl v) = inl v
field_any P handed (p ∷ ps) row (inr v) = inr (field_any P handed ps row v)

any_field : (P : Test) (handed : Handed) (ps : List Plan) (row : ℕ) → AnyVisits P handed ps row → VisitsField P handed (plans_from ps) row
any_field P handed [] row none = none
any_field P handed (p ∷ ps) row (inl v) = inl v
any_field P handed (p ∷ ps) row (inr v) = inr (any_field P handed ps row v)

last_any : (P : Test) (handed : Handed) (p : Plan) (ps : List Plan) (row : ℕ) → AnyVisits P handed (front_plans (p ∷ ps)) row ⊎ Visits P handed (last_plan (p ∷ ps)) row → AnyVisits P handed (p ∷ ps) row
last_any P handed p [] row (inl none) = absurd none
last_any P handed p [] row (inr v) = inl v
last_any P handed p (q ∷ ps) row (inl (inl v)) = inl v
last_any P handed p (q ∷ ps) row (inl (inr a)) = inr (last_any P handed q ps row (inl a))
last_any P handed p (q ∷ ps) row (inr v) = inr (last_any P handed q ps row (inr v))

any_last : (P : Test) (handed : Handed) (p : Plan) (ps : List Plan) (row : ℕ) → AnyVisits P handed (p ∷ ps) row → AnyVisits P handed (front_plans (p ∷ ps)) row ⊎ Visits P handed (last_plan (p ∷ ps)) row
any_last P handed p [] row (inl v) = inr v
any_last P handed p [] row (inr none) = absurd none
any_last P handed p (q ∷ ps) row (inl v) = inl (inl v)
any_last P handed p (q ∷ ps) row (inr a) =
    ⊎_elim (λ (f : AnyVisits P handed (front_plans (q ∷ ps)) row). inl (inr f)) (λ (v : Visits P handed (last_plan (q ∷ ps)) row). inr v) (any_last P handed q ps row a)

-- the visits of a pack's row, its validity last
abbrev PackVisits : Test → Handed → Bool → List Plan → ℕ → Type 0
PackVisits P handed has_validity ps row = VisitsField P handed (plans_from (field_plans has_validity ps)) row ⊎ VisitsValidity P handed (last_validity has_validity ps) row

-- the test never sees a plan that isn't there
abbrev pub NoGap : Test → Handed → Type 0
NoGap P handed = (row : ℕ) → P handed (plan_gap 0) row → ⊥

pub packed_any : (P : Test) (handed : Handed) (has_validity : Bool) (ps : List Plan) (row : ℕ) → NoGap P handed → PackVisits P handed has_validity ps row → AnyVisits P handed ps row
packed_any P handed false ps row gap (inl v) = field_any P handed ps row v
packed_any P handed false ps row gap (inr none) = absurd none
packed_any P handed true [] row gap (inl none) = absurd none
packed_any P handed true [] row gap (inr v) = absurd (gap row v)
packed_any P handed true (p ∷ ps) row gap (inl v) = last_any P handed p ps row (inl (field_any P handed (front_plans (p ∷ ps)) row v))
packed_any P handed true (p ∷ ps) row gap (inr v) = last_any P handed p ps row (inr v)

pub any_packed : (P : Test) (handed : Handed) (has_validity : Bool) (ps : List Plan) (row : ℕ) → AnyVisits P handed ps row → PackVisits P handed has_validity ps row
any_packed P handed false ps row a = inl (any_field P handed ps row a)
any_packed P handed true [] row none = absurd none
any_packed P handed true (p ∷ ps) row a =
    ⊎_elim (λ (f : AnyVisits P handed (front_plans (p ∷ ps)) row). inl (any_field P handed (front_plans (p ∷ ps)) row f)) (λ (v : Visits P handed (last_plan (p ∷ ps)) row). inr v) (any_last P handed p ps row a)

pub child_any : (P : Test) (handed : Handed) (nodes : List Node) (ns : List ℕ) (place child row : ℕ) → slice_get ns place ≡ Some child → Visits P handed (plan_at nodes child) row → AnyVisits P handed (map (plan_at nodes) ns) row
child_any P handed nodes [] place child row at v = absurd cc
child_any P handed nodes (n ∷ ns) zero child row at v =
    let same : child ≡ n = cc in
    let F : ℕ → Type 0 = λ k. Visits P handed (plan_at nodes k) row in
    inl (subst F same v)
child_any P handed nodes (n ∷ ns) (suc place) child row at v = inr (child_any P handed nodes ns place child row at v)

-- The column of the selected rows, kind by kind.
use Rattle.std.proofs.Common.{◌≡◌, ℕ, zero, suc, ◌+◌, ◌<◌, ◌≤◌, ◌⊎◌, inl, inr, pos, negsuc, ◌≤ℤ◌, Bool, true, List, [], ◌∷◌, Option, Some, None, Result, Ok, Err, length, map, replicate, refl, sym, ap, ◌∙◌, subst, arith}
use Rattle.std.specs.Prelude.{slice_range, IsSomeAnd, IfOk, IfErr, IfSome, MatchResult, option_and_then}
use Rattle.std.specs.List.{slice_get, range_with_len}
use Rattle.std.proofs.lemmas.Int.{ints}
use Rattle.std.proofs.lemmas.List.{length-replicate}
use Rattle.vx_picking.specs.RowFaults.{root_meaning, IsPastCode, IsRowAt}
use Rattle.vx_picking.specs.Rows.{rows_of, SelectsNone, SelectsSome}
use Rattle.vx_picking.proofs.SelectedRows.{map_same, picked_rows, row_bit, rows_all, rows_none, then_rows, value_row}
use Rattle.vx_plan.specs.Kinds.{coding_of}
use Rattle.vx_base.specs.ColumnCalls.{natural}
use Rattle.vx_base.specs.Columns.{ColumnData}
use Rattle.vx_base.specs.Data.{DataType, Datum, null, truth, number, text, structure}
use Rattle.vx_base.specs.Masks.{chosen}
use Rattle.vx_expr.specs.Bound.{Bound}
use Rattle.vx_expr.specs.Meaning.{meaning}
use Rattle.vx_expr.specs.Terms.{Term}
use Rattle.vx_expr.specs.Types.{on_both}
use Rattle.vx_expr.specs.Rows.{no_bound}
use Rattle.vx_rows.specs.Derivations.{Leaves, look_up, one_more, each_row, derived, derived_each}
use Rattle.vx_rows.specs.Given.{share_with, values_with}
use Rattle.vx_rows.specs.Reads.{IsPlaceAmong}
use Rattle.vx_rows.specs.Zones.{zones_of}
use Rattle.vx_rows.proofs.Givens.{derived_given, row_same}
use Rattle.vx_plan.specs.declared.children.PlanRef.{PlanRef}
use Rattle.vx_plan.specs.declared.shapes.Shape.TheVariants as shapes
use Rattle.vx_plan.specs.Nodes.{Node}
use Rattle.vx_plan.specs.Plans.{Plan, plan_head, plan_at, eval_plan, filter_plan, take_plan, share_plan, row_idx_plan, scan_plan, zoned_plan}
use Rattle.vx_plan.specs.PlanRows.{plan_derivation}
use Rattle.vx_plan.specs.Refs.{number_of}
use Rattle.vx_plan.specs.Rules.{node_at}
use Rattle.vx_plan.specs.Shapes.{HasShape}
use Rattle.vx_steps.specs.declared.errors.StepError.{StepError}
use Rattle.vx_steps.specs.declared.errors.StepError.TheVariants.{Unsupported, BadSegment, BadCode, EvalFault, Memory}
use Rattle.vx_steps.specs.Computed.{else_kept, kept_in, whole_in, HasCause, HasWholeCause, IsByFor, Outcome, Computes, ComputesWhole}
use Rattle.vx_steps.specs.Given.{Handed, given_for, handed_by, row_value, values_for, whole_value}
use Rattle.vx_steps.specs.Held.{Held, AreTyped, IsBy, IsHeld, alone, handed_in}
use Rattle.vx_steps.specs.KeptData.{Kept}
use Rattle.vx_steps.specs.Kept.{kept_at, values_of, whole_of}
use Rattle.vx_steps.specs.RowFaults.{IsCodeFault, IsEvalFault}
use Rattle.vx_steps.specs.Visits.{Test, Visits, SomeVisit, HasBadCode, HasEvalFault, IsListRead}
use Rattle.vx_steps.proofs.Premises.{is_by_for}
use Rattle.vx_steps.proofs.Shaping.{head_of, IsEvalPlan, IsLeafPlan, IsSharePlan, IsTakePlan, IsZonedPlan}
use Rattle.vx_steps.proofs.WholeRows.{each_at, each_same, row_below, same_below}
use Rattle.vx_steps.proofs.FreeVisits.{IsNoPlace}

-- ---- causes

-- each visit of these rows is one of those
abbrev pub VisitsUp : Handed → Plan → ℕ → List Bool → Handed → Plan → ℕ → List Bool → Type 1
VisitsUp handed p start bits handed2 q start2 bits2 = (P : Test) → SomeVisit P handed p start bits → SomeVisit P handed2 q start2 bits2

pub cause_up : (leaves : Leaves) (offset : ℕ) (handed : Handed) (p : Plan) (start : ℕ) (bits : List Bool) (handed2 : Handed) (q : Plan) (start2 : ℕ) (bits2 : List Bool) → VisitsUp handed p start bits handed2 q start2 bits2 →
    (fault : StepError) → HasCause leaves handed offset p start bits fault → HasCause leaves handed2 offset q start2 bits2 fault
cause_up leaves offset handed p start bits handed2 q start2 bits2 up (Unsupported n) h = up (IsListRead (number_of n)) h
cause_up leaves offset handed p start bits handed2 q start2 bits2 up (BadSegment s) h = absurd h
cause_up leaves offset handed p start bits handed2 q start2 bits2 up (BadCode n at) h = up (HasBadCode leaves offset (number_of n) at) h
cause_up leaves offset handed p start bits handed2 q start2 bits2 up (EvalFault at) h = up (HasEvalFault leaves offset at) h
cause_up leaves offset handed p start bits handed2 q start2 bits2 up Memory h = tt

-- the outcome is told of the plan's tree
abbrev OutcomeOf : Held → Leaves → ℕ → List Bool → Result ColumnData StepError → Plan → Type 0
OutcomeOf h leaves start bits result p = Outcome leaves (handed_in h) h.offset p start bits result

-- ---- no row

pub none_computed : (h : Held) (n start : ℕ) (bits : List Bool) (column : ColumnData) → SelectsNone bits → column.values ≡ [] → Computes h n start bits (Ok column)
none_computed h n start bits column none empty leaves are =
    ap (map (row_value leaves (handed_in h) h.offset (plan_at h.nodes n))) (rows_none start bits none) ∙ sym (ap (map Some) empty)

pub memory_computed : (h : Held) (n start : ℕ) (bits : List Bool) → Computes h n start bits (Err Memory)
memory_computed h n start bits leaves are = tt

-- where no row is selected
pub empty_computed : (h : Held) (n start : ℕ) (bits : List Bool) (result : Result ColumnData StepError) → SelectsNone bits → IfOk result (λ column. column.values ≡ []) → IfErr result (λ error. error ≡ Memory) → Computes h n start bits result
empty_computed h n start bits (Ok column) none empty memory = none_computed h n start bits column none empty
empty_computed h n start bits (Err error) none empty memory = subst (λ (e : StepError). Computes h n start bits (Err e)) (sym memory) (memory_computed h n start bits)

-- ---- a segment

leaf_row : (leaves : Leaves) (handed : Handed) (offset : ℕ) (nodes : List Node) (n segment : ℕ) (values : List Datum) → leaves (node_at nodes n).dtype (coding_of (node_at nodes n).kind) (node_at nodes n).rows segment ≡ Some values → (row : ℕ) → row_value leaves handed offset (scan_plan (head_of nodes n) segment (coding_of (node_at nodes n).kind)) row ≡ slice_get values row
leaf_row leaves handed offset nodes n segment values there row = ap (option_and_then (λ (vs : List Datum). slice_get vs row)) there

pub leaf_computed : (h : Held) (n segment start : ℕ) (bits : List Bool) (column out : ColumnData) → IsLeafPlan h.nodes n segment → HasShape h.nodes n (shapes.Leaf segment) → kept_at h.leaves n ≡ Some column → start + length bits ≤ length column.values →
    out.values ≡ chosen bits (slice_range column.values start (start + length bits)) → Computes h n start bits (Ok out)
leaf_computed h n segment start bits column out over shape at inside picked leaves are =
    let there : leaves (node_at h.nodes n).dtype (coding_of (node_at h.nodes n).kind) (node_at h.nodes n).rows segment ≡ Some column.values = are.leaves_are n segment column shape at in
    subst (OutcomeOf h leaves start bits (Ok out)) (sym over.law)
    (map_same (row_value leaves (handed_in h) h.offset (scan_plan (head_of h.nodes n) segment (coding_of (node_at h.nodes n).kind))) (slice_get column.values) (leaf_row leaves (handed_in h) h.offset h.nodes n segment column.values there) (rows_of start bits)
    ∙ picked_rows column.values start bits inside ∙ ap (map Some) (sym picked))

-- ---- the rows of one child

by_alike : (leaves : Leaves) (handed : Handed) (offset : ℕ) (p q : Plan) (start : ℕ) (bits : List Bool) → ((row : ℕ) → row_value leaves handed offset q row ≡ row_value leaves handed offset p row) → ((P : Test) (row : ℕ) → Visits P handed p row → Visits P handed q row) → (r : Result ColumnData StepError) → Outcome leaves handed offset p start bits r → Outcome leaves handed offset q start bits r
by_alike leaves handed offset p q start bits same up (Ok column) o = map_same (row_value leaves handed offset q) (row_value leaves handed offset p) same (rows_of start bits) ∙ o
by_alike leaves handed offset p q start bits same up (Err fault) o = cause_up leaves offset handed p start bits handed q start bits (λ P r. (r.0, r.1, up P (start + r.0) r.2)) fault o

pub same_computed : (h : Held) (n child start : ℕ) (bits : List Bool) (result : Result ColumnData StepError) → plan_at h.nodes n ≡ filter_plan (head_of h.nodes n) (plan_at h.nodes child) → Computes h child start bits result → Computes h n start bits result
same_computed h n child start bits result law computed leaves are =
    subst (OutcomeOf h leaves start bits result) (sym law) (by_alike leaves (handed_in h) h.offset (plan_at h.nodes child) (filter_plan (head_of h.nodes n) (plan_at h.nodes child)) start bits (λ row. refl) (λ P row v. inr v) result (computed leaves are))

pub zoned_computed : (h : Held) (n content table start : ℕ) (bits : List Bool) (result : Result ColumnData StepError) → IsZonedPlan h.nodes n content table → Computes h content start bits result → Computes h n start bits result
zoned_computed h n content table start bits result over computed leaves are =
    subst (OutcomeOf h leaves start bits result) (sym over.law) (by_alike leaves (handed_in h) h.offset (plan_at h.nodes content) (zoned_plan (head_of h.nodes n) (zones_of over.is_legacy over.zone_len over.stats) (plan_at h.nodes content) (plan_at h.nodes table)) start bits (λ row. refl) (λ P row v. inr v) result (computed leaves are))

-- ---- row numbers and lists

numbered_rows : (leaves : Leaves) (nodes : List Node) (handed : Handed) (offset n : ℕ) (rows : List ℕ) → map (row_value leaves handed offset (row_idx_plan (head_of nodes n))) rows ≡ map Some (map (λ row. natural (row + offset)) rows)
numbered_rows leaves nodes handed offset n [] = refl
numbered_rows leaves nodes handed offset n (row ∷ rows) = ap (λ (rest : List (Option Datum)). Some (natural (row + offset)) ∷ rest) (numbered_rows leaves nodes handed offset n rows)

pub numbers_computed : (h : Held) (n start : ℕ) (bits : List Bool) (column : ColumnData) → plan_at h.nodes n ≡ row_idx_plan (head_of h.nodes n) → column.values ≡ map (λ row. natural (row + h.offset)) (rows_of start bits) → Computes h n start bits (Ok column)
numbers_computed h n start bits column law values leaves are =
    subst (OutcomeOf h leaves start bits (Ok column)) (sym law) (numbered_rows leaves h.nodes (handed_in h) h.offset n (rows_of start bits) ∙ ap (map Some) (sym values))

-- ---- an expression

eval_row : (leaves : Leaves) (handed : Handed) (offset : ℕ) (nodes : List Node) (n child : ℕ) (a : Bound) → IsEvalPlan nodes n child a → (t : DataType) → t ≡ (node_at nodes child).dtype → (row : ℕ) (v : Datum) → row_value leaves handed offset (plan_at nodes child) row ≡ Some v → row_value leaves handed offset (eval_plan (head_of nodes n) a.term (plan_at nodes child)) row ≡ root_meaning t a.term v
eval_row leaves handed offset nodes n child a over t is row v at =
    let type_is : (plan_head (plan_at nodes child)).dtype ≡ t = ap (λ h. h.dtype) over.child_head ∙ sym is in
    ap (option_and_then (λ (w : Datum). meaning (plan_head (plan_at nodes child)).dtype no_bound a.term w 0)) at ∙ ap (λ (s : DataType). meaning s no_bound a.term v 0) type_is

abbrev NoMeaning : DataType → Term → Option Datum → Type 0
NoMeaning t e o = IsSomeAnd o (λ v. root_meaning t e v ≡ None)

pub eval_computed : (h : Held) (n child start : ℕ) (a : Bound) (bits : List Bool) (root : ColumnData) (result : Result ColumnData StepError) → IsEvalPlan h.nodes n child a → root.dtype ≡ (node_at h.nodes child).dtype → Computes h child start bits (Ok root) →
    IfOk result (λ column. map (root_meaning root.dtype a.term) root.values ≡ map Some column.values) → IfErr result (IsEvalFault root.dtype a.term root.values start bits) → Computes h n start bits result
eval_computed h n child start a bits root result over typed computed worked faulted leaves are =
    subst (OutcomeOf h leaves start bits result) (sym over.law) (by_result result are worked faulted)
  where
    p : Plan
    p = eval_plan (head_of h.nodes n) a.term (plan_at h.nodes child)

    f : ℕ → Option Datum
    f = row_value leaves (handed_in h) h.offset (plan_at h.nodes child)

    at_place : IsBy h leaves → (place row : ℕ) (o : Option Datum) → slice_get root.values place ≡ o → IsSomeAnd o (λ v. root_meaning root.dtype a.term v ≡ None) → IsRowAt start bits place row → SomeVisit (HasEvalFault leaves h.offset row) (handed_in h) (eval_plan (head_of h.nodes n) a.term (plan_at h.nodes child)) start bits
    at_place by place row None e some is_row = absurd some
    at_place by place row (Some v) e some is_row =
        let r = value_row (row_value leaves (handed_in h) h.offset (plan_at h.nodes child)) (rows_of start bits) root.values (computed leaves by) place v e in
        let b = row_bit start bits place r.0 r.1 in
        let named : row ≡ r.0 = is_row r.0 r.1 in
        let same : start + b.0 ≡ row = sym b.2 ∙ sym named in
        let type_is : root.dtype ≡ (plan_head (plan_at h.nodes child)).dtype = typed ∙ sym (ap (λ h. h.dtype) over.child_head) in
        let G : ℕ → Type 0 = λ k. NoMeaning (plan_head (plan_at h.nodes child)).dtype a.term (row_value leaves (handed_in h) h.offset (plan_at h.nodes child) k) in
        let T : DataType → Type 0 = λ t. NoMeaning t a.term (Some v) in
        let here : G r.0 = subst (NoMeaning (plan_head (plan_at h.nodes child)).dtype a.term) (sym r.2) (subst T type_is some) in
        (b.0, b.1, inl (same, subst G b.2 here))

    by_result : (r : Result ColumnData StepError) → IsByFor h leaves r → IfOk r (λ column. map (root_meaning root.dtype a.term) root.values ≡ map Some column.values) → IfErr r (IsEvalFault root.dtype a.term root.values start bits) → Outcome leaves (handed_in h) h.offset (eval_plan (head_of h.nodes n) a.term (plan_at h.nodes child)) start bits r
    by_result (Ok column) by ok err = then_rows (row_value leaves (handed_in h) h.offset (plan_at h.nodes child)) (row_value leaves (handed_in h) h.offset (eval_plan (head_of h.nodes n) a.term (plan_at h.nodes child))) (root_meaning root.dtype a.term) (λ row v at. eval_row leaves (handed_in h) h.offset h.nodes n child a over root.dtype typed row v at) (rows_of start bits) root.values column.values (computed leaves by) ok
    by_result (Err (Unsupported list)) by ok err = absurd err
    by_result (Err (BadSegment s)) by ok err = absurd err
    by_result (Err (BadCode m at)) by ok err = absurd err
    by_result (Err (EvalFault row)) by ok err = at_place by err.0 row (slice_get root.values err.0) refl err.1 err.2
    by_result (Err Memory) by ok err = tt

-- the child's fault is the plan's
pub eval_failed : (h : Held) (n child start : ℕ) (a : Bound) (bits : List Bool) (fault : StepError) → IsEvalPlan h.nodes n child a → Computes h child start bits (Err fault) → Computes h n start bits (Err fault)
eval_failed h n child start a bits fault over computed leaves are =
    subst (OutcomeOf h leaves start bits (Err fault)) (sym over.law)
    (cause_up leaves h.offset (handed_in h) (plan_at h.nodes child) start bits (handed_in h) (eval_plan (head_of h.nodes n) a.term (plan_at h.nodes child)) start bits (λ P r. (r.0, r.1, inr r.2)) fault (computed leaves are))

-- ---- whole values

-- these are the whole values of the number: handed in, or else those of the plan
abbrev pub AreWhole : Held → Leaves → ℕ → ℕ → ℕ → List Datum → Type 0
AreWhole h leaves n plan rows vs = (values_for (handed_in h) n ≡ Some vs) ⊎ ((values_for (handed_in h) n ≡ None) × (derived_each leaves (each_row (plan_derivation h.offset (plan_at h.nodes plan)) 0 rows) ≡ Some vs))

whole_kept : (given : Option (List Kept)) (made : List Kept) (n : ℕ) (column : ColumnData) → else_kept (kept_in given n) (kept_at made n) ≡ Some column → (kept_in given n ≡ Some column) ⊎ ((kept_in given n ≡ None) × (kept_at made n ≡ Some column))
whole_kept given made n column e = by (kept_in given n) e
  where
    by : (o : Option ColumnData) → else_kept o (kept_at made n) ≡ Some column → (o ≡ Some column) ⊎ ((o ≡ None) × (kept_at made n ≡ Some column))
    by None e = inr (refl, e)
    by (Some c) e = inl e

pub handed_values : (nodes : List Node) (given : Option (List Kept)) (n whole : ℕ) → ((kept : List Kept) → given_for nodes kept n ≡ whole_of kept whole) → values_for (handed_by nodes given) n ≡ values_of (kept_in given whole)
handed_values nodes None n whole is = refl
handed_values nodes (Some kept) n whole is = is kept

-- what is there for a take's values is their whole values
pub whole_there : (h : Held) (leaves : Leaves) (n values : ℕ) (column : ColumnData) → ((kept : List Kept) → given_for h.nodes kept n ≡ whole_of kept values) → IsBy h leaves → whole_in h values ≡ Some column → AreWhole h leaves n values (plan_head (plan_at h.nodes values)).rows column.values
whole_there h leaves n values column given are at = by (whole_kept h.given h.made values column at)
  where
    by : (kept_in h.given values ≡ Some column) ⊎ ((kept_in h.given values ≡ None) × (kept_at h.made values ≡ Some column)) → AreWhole h leaves n values (plan_head (plan_at h.nodes values)).rows column.values
    by (inl e) = inl (handed_values h.nodes h.given n values given ∙ ap values_of e)
    by (inr e) = inr (handed_values h.nodes h.given n values given ∙ ap values_of e.0, are.made_are values column e.1)

pub none_kept : (a b : Option ColumnData) → else_kept a b ≡ None → a ≡ None
none_kept None b e = refl
none_kept (Some c) b e = absurd cc

-- where nothing is there, what is made of the plan is
pub whole_made : (h : Held) (leaves : Leaves) (n whole plan rows : ℕ) (vs : List Datum) → ((kept : List Kept) → given_for h.nodes kept n ≡ whole_of kept whole) → whole_in h whole ≡ None → derived_each leaves (each_row (plan_derivation h.offset (plan_at h.nodes plan)) 0 rows) ≡ Some vs → AreWhole h leaves n plan rows vs
whole_made h leaves n whole plan rows vs given none made =
    inr (handed_values h.nodes h.given n whole given ∙ ap values_of (none_kept (kept_in h.given whole) (kept_at h.made whole) none), made)

-- ---- a take

-- what a take looks its codes up in
abbrev TakeValues : Held → Leaves → ℕ → ℕ → Option (List Datum)
TakeValues h leaves n values = derived_each leaves (values_with (values_for (handed_in h) n) (each_row (plan_derivation h.offset (plan_at h.nodes values)) 0 (plan_head (plan_at h.nodes values)).rows))

take_values : (h : Held) (leaves : Leaves) (n values : ℕ) (vs : List Datum) → AreWhole h leaves n values (plan_head (plan_at h.nodes values)).rows vs → TakeValues h leaves n values ≡ Some vs
take_values h leaves n values vs (inl e) =
    let F : Option (List Datum) → Type 0 = λ o. derived_each leaves (values_with o (each_row (plan_derivation h.offset (plan_at h.nodes values)) 0 (plan_head (plan_at h.nodes values)).rows)) ≡ Some vs in
    subst F (sym e) (derived_given leaves vs)
take_values h leaves n values vs (inr e) =
    let F : Option (List Datum) → Type 0 = λ o. derived_each leaves (values_with o (each_row (plan_derivation h.offset (plan_at h.nodes values)) 0 (plan_head (plan_at h.nodes values)).rows)) ≡ Some vs in
    subst F (sym e.0) e.1

look_row : (vs : List Datum) (whole : Option (List Datum)) → whole ≡ Some vs → (code : Option Datum) (v : Datum) → code ≡ Some v → on_both look_up whole code ≡ look_up vs v
look_row vs whole is code v at = ap (λ (w : Option (List Datum)). on_both look_up w code) is ∙ ap (on_both look_up (Some vs)) at

past_code : (count : ℕ) (v : Datum) → IsPastCode count v → IsPlaceAmong count v → ⊥
past_code count null past among = past
past_code count (truth b) past among = past
past_code count (number (pos place)) past among = let a : pos count ≤ℤ pos place = past in omega (arith, ints)
past_code count (number (negsuc n)) past among = among
past_code count (text bytes) past among = past
past_code count (structure vs) past among = past

pub take_computed : (h : Held) (n codes values start : ℕ) (bits : List Bool) (code column : ColumnData) (result : Result ColumnData StepError) → IsTakePlan h.nodes n codes values → Computes h codes start bits (Ok code) →
    ((leaves : Leaves) → IsBy h leaves → AreWhole h leaves n values (plan_head (plan_at h.nodes values)).rows column.values) → length column.values ≡ (node_at h.nodes values).rows →
    IfOk result (λ out. map (look_up column.values) code.values ≡ map Some out.values) → IfErr result (IsCodeFault n (length column.values) code.values start bits) → Computes h n start bits result
take_computed h n codes values start bits code column result over computed whole long looked faulted leaves are =
    subst (OutcomeOf h leaves start bits result) (sym over.law) (by_result result are looked faulted)
  where
    at_place : IsBy h leaves → (take : PlanRef) (place row : ℕ) (o : Option Datum) → number_of take ≡ n → slice_get code.values place ≡ o → IsSomeAnd o (IsPastCode (length column.values)) → IsRowAt start bits place row → SomeVisit (HasBadCode leaves h.offset (number_of take) row) (handed_in h) (take_plan (head_of h.nodes n) (plan_at h.nodes codes) (plan_at h.nodes values)) start bits
    at_place by take place row None is e some is_row = absurd some
    at_place by take place row (Some v) is e some is_row =
        let r = value_row (row_value leaves (handed_in h) h.offset (plan_at h.nodes codes)) (rows_of start bits) code.values (computed leaves by) place v e in
        let b = row_bit start bits place r.0 r.1 in
        let named : row ≡ r.0 = is_row r.0 r.1 in
        let same : start + b.0 ≡ row = sym b.2 ∙ sym named in
        let count : length column.values ≡ (plan_head (plan_at h.nodes values)).rows = long ∙ sym (ap (λ h. h.rows) over.values_head) in
        let G : ℕ → Type 0 = λ k. IsNoPlace (plan_head (plan_at h.nodes values)).rows (row_value leaves (handed_in h) h.offset (plan_at h.nodes codes) k) in
        let C : ℕ → Type 0 = λ count. IsNoPlace count (Some v) in
        let bad : C (length column.values) = λ among. past_code (length column.values) v some among in
        let here : G r.0 = subst (IsNoPlace (plan_head (plan_at h.nodes values)).rows) (sym r.2) (subst C count bad) in
        (b.0, b.1, inl (sym is, same, subst G b.2 here))

    by_result : (r : Result ColumnData StepError) → IsByFor h leaves r → IfOk r (λ out. map (look_up column.values) code.values ≡ map Some out.values) → IfErr r (IsCodeFault n (length column.values) code.values start bits) → Outcome leaves (handed_in h) h.offset (take_plan (head_of h.nodes n) (plan_at h.nodes codes) (plan_at h.nodes values)) start bits r
    by_result (Ok out) by ok err = then_rows (row_value leaves (handed_in h) h.offset (plan_at h.nodes codes)) (row_value leaves (handed_in h) h.offset (take_plan (head_of h.nodes n) (plan_at h.nodes codes) (plan_at h.nodes values))) (look_up column.values) (λ row v at. look_row column.values (TakeValues h leaves n values) (take_values h leaves n values column.values (whole leaves by)) (row_value leaves (handed_in h) h.offset (plan_at h.nodes codes) row) v at) (rows_of start bits) code.values out.values (computed leaves by) ok
    by_result (Err (Unsupported list)) by ok err = absurd err
    by_result (Err (BadSegment s)) by ok err = absurd err
    by_result (Err (BadCode m row)) by ok err = at_place by m err.1.0 row (slice_get code.values err.1.0) err.0 refl err.1.1 err.1.2
    by_result (Err (EvalFault row)) by ok err = absurd err
    by_result (Err Memory) by ok err = tt

-- the codes have the fault
pub codes_failed : (h : Held) (n codes values start : ℕ) (bits : List Bool) (fault : StepError) → IsTakePlan h.nodes n codes values → Computes h codes start bits (Err fault) → Computes h n start bits (Err fault)
codes_failed h n codes values start bits fault over computed leaves are =
    subst (OutcomeOf h leaves start bits (Err fault)) (sym over.law)
    (cause_up leaves h.offset (handed_in h) (plan_at h.nodes codes) start bits (handed_in h) (take_plan (head_of h.nodes n) (plan_at h.nodes codes) (plan_at h.nodes values)) start bits (λ P r. (r.0, r.1, inr (inl r.2))) fault (computed leaves are))

-- the whole values have it, where nothing is there for them
pub values_failed : (h : Held) (n codes values start : ℕ) (bits : List Bool) (fault : StepError) → IsTakePlan h.nodes n codes values → whole_in h values ≡ None → SelectsSome bits → ComputesWhole h values (Err fault) → Computes h n start bits (Err fault)
values_failed h n codes values start bits fault over none some computed leaves are =
    let w : HasWholeCause leaves h.offset (plan_at h.nodes values) (node_at h.nodes values).rows fault = computed leaves are in
    let not_given : values_for (handed_in h) n ≡ None = handed_values h.nodes h.given n values over.given ∙ ap values_of (none_kept (kept_in h.given values) (kept_at h.made values) none) in
    let q : Plan = take_plan (head_of h.nodes n) (plan_at h.nodes codes) (plan_at h.nodes values) in
    let count : length w.0 ≡ (plan_head (plan_at h.nodes values)).rows = w.1 ∙ sym (ap (λ h. h.rows) over.values_head) in
    let up : VisitsUp None (plan_at h.nodes values) 0 w.0 (handed_in h) q start bits = λ P r. (some.0, some.1, inr (inr (not_given, (0 + r.0, row_below w.0 (plan_head (plan_at h.nodes values)).rows count r.0 r.1, r.2)))) in
    subst (OutcomeOf h leaves start bits (Err fault)) (sym over.law) (cause_up leaves h.offset None (plan_at h.nodes values) 0 w.0 (handed_in h) q start bits up fault w.2)

-- ---- a share

-- the row of a share, by its whole values
share_row : (h : Held) (leaves : Leaves) (n child : ℕ) (vs : List Datum) → (plan_head (plan_at h.nodes child)).rows ≡ (node_at h.nodes child).rows → AreWhole h leaves n child (node_at h.nodes child).rows vs → length vs ≡ (node_at h.nodes child).rows → (row : ℕ) → row < (node_at h.nodes child).rows → row_value leaves (handed_in h) h.offset (share_plan (head_of h.nodes n) (plan_at h.nodes child)) row ≡ slice_get vs row
share_row h leaves n child vs head (inl e) long row less =
    let F : Option (List Datum) → Type 0 = λ o. derived leaves (share_with o row (plan_derivation h.offset (share_plan (head_of h.nodes n) (plan_at h.nodes child)) row)) ≡ slice_get vs row in
    subst F (sym e) (row_same leaves (slice_get vs row))
share_row h leaves n child vs head (inr e) long row less =
    let F : Option (List Datum) → Type 0 = λ o. derived leaves (share_with o row (plan_derivation h.offset (share_plan (head_of h.nodes n) (plan_at h.nodes child)) row)) ≡ slice_get vs row in
    let zero_more : 0 + row ≡ row = omega arith in
    let own : slice_get vs row ≡ derived leaves (plan_derivation h.offset (plan_at h.nodes child) row) = each_at leaves (plan_derivation h.offset (plan_at h.nodes child)) 0 (node_at h.nodes child).rows vs e.1 row less ∙ ap (λ (k : ℕ). derived leaves (plan_derivation h.offset (plan_at h.nodes child) k)) zero_more in
    subst F (sym e.0) (sym own)

pub share_computed : (h : Held) (n child start : ℕ) (bits : List Bool) (column out : ColumnData) → IsSharePlan h.nodes n child → start + length bits ≤ (node_at h.nodes n).rows →
    ((leaves : Leaves) → IsBy h leaves → AreWhole h leaves n child (node_at h.nodes child).rows column.values) → length column.values ≡ (node_at h.nodes n).rows →
    out.values ≡ chosen bits (slice_range column.values start (start + length bits)) → Computes h n start bits (Ok out)
share_computed h n child start bits column out over inside whole long picked leaves are =
    let rows : (node_at h.nodes n).rows ≡ (node_at h.nodes child).rows = over.like.rows in
    subst (OutcomeOf h leaves start bits (Ok out)) (sym over.law)
    (same_below (row_value leaves (handed_in h) h.offset (share_plan (head_of h.nodes n) (plan_at h.nodes child))) (slice_get column.values) (node_at h.nodes child).rows start bits (omega arith) (λ row less. share_row h leaves n child column.values (ap (λ h. h.rows) over.child_head) (whole leaves are) (long ∙ rows) row less)
    ∙ picked_rows column.values start bits (omega arith) ∙ ap (map Some) (sym picked))

-- what is there for a share is its whole values
share_each : (h : Held) (leaves : Leaves) (n child from count : ℕ) → derived_each leaves (each_row (plan_derivation h.offset (share_plan (head_of h.nodes n) (plan_at h.nodes child))) from count) ≡ derived_each leaves (each_row (plan_derivation h.offset (plan_at h.nodes child)) from count)
share_each h leaves n child from zero = refl
share_each h leaves n child from (suc count) = ap (on_both one_more (derived leaves (plan_derivation h.offset (plan_at h.nodes child) from))) (share_each h leaves n child (from + 1) count)

pub share_whole : (h : Held) (leaves : Leaves) (n child : ℕ) → IsSharePlan h.nodes n child → whole_value leaves h.offset (plan_at h.nodes n) ≡ derived_each leaves (each_row (plan_derivation h.offset (plan_at h.nodes child)) 0 (node_at h.nodes child).rows)
share_whole h leaves n child over =
    ap (whole_value leaves h.offset) over.law ∙ ap (λ (rows : ℕ). derived_each leaves (each_row (plan_derivation h.offset (share_plan (head_of h.nodes n) (plan_at h.nodes child))) 0 rows)) over.like.rows ∙ share_each h leaves n child 0 (node_at h.nodes child).rows

pub share_there : (h : Held) (leaves : Leaves) (n child : ℕ) (column : ColumnData) → IsSharePlan h.nodes n child → IsBy h leaves → whole_in h n ≡ Some column → AreWhole h leaves n child (node_at h.nodes child).rows column.values
share_there h leaves n child column over are at = by (whole_kept h.given h.made n column at)
  where
    by : (kept_in h.given n ≡ Some column) ⊎ ((kept_in h.given n ≡ None) × (kept_at h.made n ≡ Some column)) → AreWhole h leaves n child (node_at h.nodes child).rows column.values
    by (inl e) = inl (handed_values h.nodes h.given n n over.given ∙ ap values_of e)
    by (inr e) = inr (handed_values h.nodes h.given n n over.given ∙ ap values_of e.0, sym (share_whole h leaves n child over) ∙ are.made_are n column e.1)

-- what is made of a share's child, where nothing is there for the share
pub share_made : (h : Held) (leaves : Leaves) (n child : ℕ) (vs : List Datum) → IsSharePlan h.nodes n child → whole_in h n ≡ None → whole_value leaves h.offset (plan_at h.nodes child) ≡ Some vs → AreWhole h leaves n child (node_at h.nodes child).rows vs
share_made h leaves n child vs over none made =
    let F : ℕ → Type 0 = λ rows. derived_each leaves (each_row (plan_derivation h.offset (plan_at h.nodes child)) 0 rows) ≡ Some vs in
    whole_made h leaves n n child (node_at h.nodes child).rows vs over.given none (subst F (ap (λ h. h.rows) over.child_head) made)

-- the child has a fault, where nothing is there for the share
pub shared_failed : (h : Held) (n child start : ℕ) (bits : List Bool) (fault : StepError) → IsSharePlan h.nodes n child → whole_in h n ≡ None → SelectsSome bits → ComputesWhole h child (Err fault) → Computes h n start bits (Err fault)
shared_failed h n child start bits fault over none some computed leaves are =
    let w : HasWholeCause leaves h.offset (plan_at h.nodes child) (node_at h.nodes child).rows fault = computed leaves are in
    let not_given : values_for (handed_in h) n ≡ None = handed_values h.nodes h.given n n over.given ∙ ap values_of (none_kept (kept_in h.given n) (kept_at h.made n) none) in
    let q : Plan = share_plan (head_of h.nodes n) (plan_at h.nodes child) in
    let count : length w.0 ≡ (plan_head (plan_at h.nodes child)).rows = w.1 ∙ sym (ap (λ h. h.rows) over.child_head) in
    let up : VisitsUp None (plan_at h.nodes child) 0 w.0 (handed_in h) q start bits = λ P r. (some.0, some.1, inr (not_given, (0 + r.0, row_below w.0 (plan_head (plan_at h.nodes child)).rows count r.0 r.1, r.2))) in
    subst (OutcomeOf h leaves start bits (Err fault)) (sym over.law) (cause_up leaves h.offset None (plan_at h.nodes child) 0 w.0 (handed_in h) q start bits up fault w.2)

-- ---- all rows

pub whole_computed : (h : Held) (n : ℕ) (result : Result ColumnData StepError) → (plan_head (plan_at h.nodes n)).rows ≡ (node_at h.nodes n).rows → Computes (alone h) n 0 (replicate (node_at h.nodes n).rows true) result → ComputesWhole h n result
whole_computed h n result head computed leaves are = by_result result (computed leaves (is_by_for h (alone h) leaves (λ by. record { leaves_are = by.leaves_are; made_are = by.made_are }) result are))
  where
    by_result : (r : Result ColumnData StepError) → Outcome leaves None h.offset (plan_at h.nodes n) 0 (replicate (node_at h.nodes n).rows true) r → MatchResult r (λ column. whole_value leaves h.offset (plan_at h.nodes n) ≡ Some column.values) (λ fault. HasWholeCause leaves h.offset (plan_at h.nodes n) (node_at h.nodes n).rows fault)
    by_result (Ok column) o =
        let F : ℕ → Type 0 = λ rows. derived_each leaves (each_row (plan_derivation h.offset (plan_at h.nodes n)) 0 rows) ≡ Some column.values in
        let all : map (row_value leaves None h.offset (plan_at h.nodes n)) (range_with_len 0 (node_at h.nodes n).rows) ≡ map Some column.values = ap (map (row_value leaves None h.offset (plan_at h.nodes n))) (sym (rows_all 0 (node_at h.nodes n).rows)) ∙ o in
        subst F (sym head) (each_same leaves h.offset (plan_at h.nodes n) 0 (node_at h.nodes n).rows column.values all)
    by_result (Err fault) o = (replicate (node_at h.nodes n).rows true, length-replicate (node_at h.nodes n).rows true, o)

pub whole_memory : (h : Held) (n : ℕ) → ComputesWhole h n (Err Memory)
whole_memory h n leaves are = (replicate (node_at h.nodes n).rows true, length-replicate (node_at h.nodes n).rows true, tt)

-- what is there for a plan has its dtype and its rows
given_typed : (nodes : List Node) (given : Option (List Kept)) (n : ℕ) (column : ColumnData) → IfSome given (AreTyped nodes) → kept_in given n ≡ Some column → (column.dtype ≡ (node_at nodes n).dtype) × (length column.values ≡ (node_at nodes n).rows)
given_typed nodes None n column typed at = absurd cc
given_typed nodes (Some kept) n column typed at = typed n column at

pub whole_typed : (h : Held) (n : ℕ) (column : ColumnData) → IsHeld h → whole_in h n ≡ Some column → (column.dtype ≡ (node_at h.nodes n).dtype) × (length column.values ≡ (node_at h.nodes n).rows)
whole_typed h n column is at = by (whole_kept h.given h.made n column at)
  where
    by : (kept_in h.given n ≡ Some column) ⊎ ((kept_in h.given n ≡ None) × (kept_at h.made n ≡ Some column)) → (column.dtype ≡ (node_at h.nodes n).dtype) × (length column.values ≡ (node_at h.nodes n).rows)
    by (inl e) = given_typed h.nodes h.given n column is.given e
    by (inr e) = is.made n column e.1

-- The columns of a pack's children, and the structs of them.
use Rattle.std.proofs.Common.{◌≡◌, ℕ, zero, suc, ◌+◌, ◌<◌, ◌⊎◌, inl, inr, Bool, true, false, List, [], ◌∷◌, ◌++◌, Option, Some, Ok, Err, length, map, take, refl, sym, ap, ◌∙◌, subst, arith}
use Rattle.std.specs.Prelude.{cond, option_map, IsSomeAnd}
use Rattle.std.specs.List.{slice_get, slice_index_or, range_with_len, AllByRecursion}
use Rattle.std.proofs.lemmas.List.{length-map}
use Rattle.std.proofs.lemmas.List.FromFn.{length-map-range_with_len}
use Rattle.std.proofs.lemmas.Option.{slice_get_within}
use Rattle.vx_base.specs.declared.dtypes.Nullability.TheVariants.{NonNullable}
use Rattle.vx_base.specs.ColumnCalls.{items_at, packed_at, IsFitting}
use Rattle.vx_base.specs.Data.{DataType, bool_type, Datum, null, truth, number, text, structure}
use Rattle.vx_base.specs.Fits.{Fits}
use Rattle.vx_base.specs.Masks.{true_count}
use Rattle.vx_base.specs.Slots.{truth_in}
use Rattle.vx_expr.specs.Types.{on_both}
use Rattle.vx_expr.specs.Packs.{struct_row}
use Rattle.vx_picking.specs.Rows.{rows_of, AreOf}
use Rattle.vx_picking.proofs.SelectedRows.{count_of_rows, rows_count}
use Rattle.vx_plan.specs.Kinds.{has_validity_of, HasKind, IsPack}
use Rattle.vx_plan.specs.PlanRows.{plan_derivations}
use Rattle.vx_plan.specs.Tables.{IsGoodTable}
use Rattle.vx_rows.specs.Given.{each_with_given}
use Rattle.vx_steps.specs.Structs.{field_parts, front_parts, last_part, structs_at, truths_of, validity_part, HaveTypes}
use Rattle.vx_base.specs.Columns.{ColumnData}
use Rattle.vx_plan.specs.Plans.{Plan, plan_at, plans_from, field_plans, front_plans, last_plan, last_validity, pack_plan}
use Rattle.vx_plan.specs.Rules.{field_count, node_at, nodes_at, IsValidityType, ValidityFits}
use Rattle.vx_plan.proofs.Collecting.{plan_there}
use Rattle.vx_rows.specs.Derivations.{Leaves, derived_each, valid_value, where_valid}
use Rattle.vx_rows.specs.Heads.{Head}
use Rattle.vx_steps.specs.declared.errors.StepError.{StepError}
use Rattle.vx_steps.specs.Computed.{AreParts, Computes, IsPart, Outcome}
use Rattle.vx_steps.specs.Given.{Handed, row_value, values_for}
use Rattle.vx_steps.specs.Held.{Held, IsBy, handed_in}
use Rattle.vx_steps.specs.Visits.{Test, Visits, VisitsField, VisitsValidity}
use Rattle.vx_steps.proofs.ComputedRows.{cause_up}
use Rattle.vx_steps.proofs.Shaping.{head_of, validity_fits, IsPackPlan}
use Rattle.vx_steps.proofs.Selecting.{taken_one}

-- ---- visits

field_at : (P : Test) (handed : Handed) (ps : List Plan) (place : ℕ) (p : Plan) (row : ℕ) → slice_get ps place ≡ Some p → Visits P handed p row → VisitsField P handed (plans_from ps) row
field_at P handed [] place p row at v = absurd cc
field_at P handed (q ∷ ps) zero p row at v =
    let e : q ≡ p = cc in
    let F : Plan → Type 0 = λ r. Visits P handed r row in
    inl (subst F (sym e) v)
field_at P handed (q ∷ ps) (suc place) p row at v = inr (field_at P handed ps place p row at v)

front_or_last : (ps : List Plan) (place : ℕ) (p : Plan) → slice_get ps place ≡ Some p → (slice_get (front_plans ps) place ≡ Some p) ⊎ (p ≡ last_plan ps)
front_or_last [] place p at = absurd cc
front_or_last (q ∷ []) zero p at = let e : q ≡ p = cc in inr (sym e)
front_or_last (q ∷ []) (suc place) p at = absurd cc
front_or_last (q ∷ r ∷ ps) zero p at = inl at
front_or_last (q ∷ r ∷ ps) (suc place) p at = front_or_last (r ∷ ps) place p at

-- what a child's row visits, the pack's does
field_up : (P : Test) (handed : Handed) (has_validity : Bool) (ps : List Plan) (place : ℕ) (p : Plan) (row : ℕ) → slice_get ps place ≡ Some p → Visits P handed p row → VisitsField P handed (plans_from (field_plans has_validity ps)) row ⊎ VisitsValidity P handed (last_validity has_validity ps) row
field_up P handed false ps place p row at v = inl (field_at P handed ps place p row at v)
field_up P handed true ps place p row at v = by (front_or_last ps place p at)
  where
    by : (slice_get (front_plans ps) place ≡ Some p) ⊎ (p ≡ last_plan ps) → VisitsField P handed (plans_from (front_plans ps)) row ⊎ Visits P handed (last_plan ps) row
    by (inl e) = inl (field_at P handed (front_plans ps) place p row e v)
    by (inr e) =
        let F : Plan → Type 0 = λ r. Visits P handed r row in
        inr (subst F e v)

pub field_failed : (h : Held) (n start : ℕ) (bits : List Bool) (place child : ℕ) (fault : StepError) → IsPackPlan h.nodes n → slice_get (node_at h.nodes n).children place ≡ Some child → Computes h child start bits (Err fault) → Computes h n start bits (Err fault)
field_failed h n start bits place child fault over at computed leaves are =
    let ps : List Plan = map (plan_at h.nodes) (node_at h.nodes n).children in
    let p : Plan = pack_plan (head_of h.nodes n) (plans_from (field_plans over.has_validity ps)) (last_validity over.has_validity ps) in
    let F : Plan → Type 0 = λ q. Outcome leaves (handed_in h) h.offset q start bits (Err fault) in
    subst F (sym over.law)
    (cause_up leaves h.offset (handed_in h) (plan_at h.nodes child) start bits (handed_in h) p start bits (λ P r. (r.0, r.1, inr (field_up P (handed_in h) over.has_validity ps place (plan_at h.nodes child) (start + r.0) (plan_there h.nodes (node_at h.nodes n).children place child at) r.2))) fault (computed leaves are))

-- ---- parts

parts_pushed : (h : Held) (start : ℕ) (bits : List Bool) (ns : List ℕ) (n : ℕ) (parts : List ColumnData) (part : ColumnData) → AreParts h start bits ns parts → IsPart h n start bits part → AreParts h start bits (ns ++ n ∷ []) (parts ++ part ∷ [])
parts_pushed h start bits [] n [] part are is = (is, tt)
parts_pushed h start bits [] n (q ∷ parts) part are is = absurd are
parts_pushed h start bits (m ∷ ns) n [] part are is = absurd are
parts_pushed h start bits (m ∷ ns) n (q ∷ parts) part are is = (are.0, parts_pushed h start bits ns n parts part are.1 is)

pub parts_more : (h : Held) (start : ℕ) (bits : List Bool) (ns : List ℕ) (place n : ℕ) (parts : List ColumnData) (part : ColumnData) → slice_get ns place ≡ Some n → AreParts h start bits (take place ns) parts → IsPart h n start bits part → AreParts h start bits (take (place + 1) ns) (parts ++ part ∷ [])
parts_more h start bits ns place n parts part at are is = rw (taken_one ns place n at) (parts_pushed h start bits (take place ns) n parts part are is)

pub parts_typed : (h : Held) (start : ℕ) (bits : List Bool) (ns : List ℕ) (parts : List ColumnData) → AreParts h start bits ns parts → HaveTypes h.nodes ns parts
parts_typed h start bits [] [] are = tt
parts_typed h start bits [] (part ∷ parts) are = absurd are
parts_typed h start bits (n ∷ ns) [] are = absurd are
parts_typed h start bits (n ∷ ns) (part ∷ parts) are = (are.0.dtype, parts_typed h start bits ns parts are.1)

-- ---- values at places

value_there : (f : ℕ → Option Datum) (rows : List ℕ) (values : List Datum) → AreOf f rows values → (k r : ℕ) → slice_get rows k ≡ Some r → f r ≡ Some (slice_index_or values k null)
value_there f [] values are k r at = absurd cc
value_there f (row ∷ rows) [] are k r at = absurd cc
value_there f (row ∷ rows) (v ∷ values) are zero r at =
    let same : row ≡ r = cc in
    let first : f row ≡ Some v = cc in
    ap f (sym same) ∙ first
value_there f (row ∷ rows) (v ∷ values) are (suc k) r at =
    let rest : AreOf f rows values = cc in
    value_there f rows values rest k r at

by_places : (f : ℕ → Option Datum) (g : ℕ → Datum) (rows : List ℕ) (from : ℕ) → ((k r : ℕ) → slice_get rows k ≡ Some r → f r ≡ Some (g (from + k))) → map f rows ≡ map Some (map g (range_with_len from (length rows)))
by_places f g [] from same = refl
by_places f g (row ∷ rows) from same =
    let zero_more : from + 0 ≡ from = omega arith in
    let first : f row ≡ Some (g from) = same 0 row refl ∙ ap (λ (k : ℕ). Some (g k)) zero_more in
    let rest : map f rows ≡ map Some (map g (range_with_len (from + 1) (length rows))) = by_places f g rows (from + 1) (λ k r at.
    let more : from + suc k ≡ from + 1 + k = omega arith in
    same (suc k) r at ∙ ap (λ (j : ℕ). Some (g j)) more) in
    cc

-- the parts' values at a place
abbrev values_at_place : List ColumnData → ℕ → List Datum
values_at_place parts k = map (λ part. slice_index_or part.values k null) parts

-- the values of the plans' rows
abbrev FieldValues : Held → Leaves → List Plan → ℕ → Option (List Datum)
FieldValues h leaves ps r = derived_each leaves (each_with_given (values_for (handed_in h)) (plan_derivations h.offset (plans_from ps) r))

one_value : (h : Held) (leaves : Leaves) (n start : ℕ) (bits : List Bool) (part : ColumnData) → IsPart h n start bits part → IsBy h leaves → (k r : ℕ) → slice_get (rows_of start bits) k ≡ Some r → row_value leaves (handed_in h) h.offset (plan_at h.nodes n) r ≡ Some (slice_index_or part.values k null)
one_value h leaves n start bits part is are k r at = value_there (row_value leaves (handed_in h) h.offset (plan_at h.nodes n)) (rows_of start bits) part.values (is.computed leaves are) k r at

field_values : (h : Held) (leaves : Leaves) (start : ℕ) (bits : List Bool) (ns : List ℕ) (parts : List ColumnData) → AreParts h start bits ns parts → IsBy h leaves → (k r : ℕ) → slice_get (rows_of start bits) k ≡ Some r → FieldValues h leaves (map (plan_at h.nodes) ns) r ≡ Some (values_at_place parts k)
field_values h leaves start bits [] [] all are k r at = refl
field_values h leaves start bits [] (part ∷ parts) all are k r at = absurd all
field_values h leaves start bits (n ∷ ns) [] all are k r at = absurd all
field_values h leaves start bits (n ∷ ns) (part ∷ parts) all are k r at =
    rw (one_value h leaves n start bits part all.0 are k r at, field_values h leaves start bits ns parts all.1 are k r at) refl

front_values : (h : Held) (leaves : Leaves) (start : ℕ) (bits : List Bool) (n : ℕ) (ns : List ℕ) (part : ColumnData) (parts : List ColumnData) → AreParts h start bits (n ∷ ns) (part ∷ parts) → IsBy h leaves → (k r : ℕ) → slice_get (rows_of start bits) k ≡ Some r → FieldValues h leaves (front_plans (map (plan_at h.nodes) (n ∷ ns))) r ≡ Some (values_at_place (front_parts (part ∷ parts)) k)
front_values h leaves start bits n [] part [] all are k r at = refl
front_values h leaves start bits n [] part (q ∷ parts) all are k r at = absurd all.1
front_values h leaves start bits n (m ∷ ns) part [] all are k r at = absurd all.1
front_values h leaves start bits n (m ∷ ns) part (q ∷ parts) all are k r at =
    rw (one_value h leaves n start bits part all.0 are k r at, front_values h leaves start bits m ns q parts all.1 are k r at) refl

-- ---- the validity

record HasTruths (h : Held) (leaves : Leaves) (start : ℕ) (bits : List Bool) (n : ℕ) (ns : List ℕ) (parts : List ColumnData) : Type 0 where
  last : ColumnData
  is : last_part parts ≡ Some last
  dtype : last.dtype ≡ bool_type NonNullable
  fit : IsFitting last
  values : AreOf (row_value leaves (handed_in h) h.offset (last_plan (map (plan_at h.nodes) (n ∷ ns)))) (rows_of start bits) last.values

has_truths : (h : Held) (leaves : Leaves) (start : ℕ) (bits : List Bool) (n : ℕ) (ns : List ℕ) (part : ColumnData) (parts : List ColumnData) → AreParts h start bits (n ∷ ns) (part ∷ parts) → AllByRecursion IsFitting (part ∷ parts) → IsBy h leaves → (place : ℕ) → place ≡ length ns → IsSomeAnd (slice_get (nodes_at h.nodes (n ∷ ns)) place) (λ validity. IsValidityType validity.dtype) → HasTruths h leaves start bits n ns (part ∷ parts)
has_truths h leaves start bits n [] part [] all fit are zero e valid = record { last = part; is = refl; dtype = all.0.dtype ∙ valid; fit = fit.0; values = all.0.computed leaves are }
has_truths h leaves start bits n [] part [] all fit are (suc place) e valid = absurd (omega arith)
has_truths h leaves start bits n [] part (q ∷ parts) all fit are place e valid = absurd all.1
has_truths h leaves start bits n (m ∷ ns) part [] all fit are place e valid = absurd all.1
has_truths h leaves start bits n (m ∷ ns) part (q ∷ parts) all fit are zero e valid = absurd (omega arith)
has_truths h leaves start bits n (m ∷ ns) part (q ∷ parts) all fit are (suc place) e valid =
    let t = has_truths h leaves start bits m ns q parts all.1 fit.1 are place (omega arith) valid in
    record { last = t.last; is = t.is; dtype = t.dtype; fit = t.fit; values = t.values }

truth_there : (values : List Datum) (k : ℕ) → slice_index_or (map truth_in values) k false ≡ truth_in (slice_index_or values k null)
truth_there [] zero = refl
truth_there [] (suc k) = refl
truth_there (v ∷ values) zero = refl
truth_there (v ∷ values) (suc k) = truth_there values k

fits_there : (t : DataType) (values : List Datum) (k : ℕ) → AllByRecursion (Fits t) values → k < length values → Fits t (slice_index_or values k null)
fits_there t [] k fit less = absurd (omega arith)
fits_there t (v ∷ values) zero fit less = fit.0
fits_there t (v ∷ values) (suc k) fit less = fits_there t values k fit.1 (omega arith)

valid_cond : (s v : Datum) → Fits (bool_type NonNullable) v → valid_value s v ≡ cond (truth_in v) s null
valid_cond s null fit = absurd fit
valid_cond s (truth true) fit = refl
valid_cond s (truth false) fit = refl
valid_cond s (number z) fit = absurd fit
valid_cond s (text bytes) fit = absurd fit
valid_cond s (structure vs) fit = absurd fit

-- ---- structs

-- the number of structs
pub structs_count : (has_validity : Bool) (parts : List ColumnData) (rows : ℕ) → length (structs_at has_validity parts rows) ≡ rows
structs_count has_validity parts rows = length-map-range_with_len (packed_at (validity_part has_validity parts) (field_parts has_validity parts)) 0 rows

-- a row of a pack is the struct at its place among the selected rows
struct_here : (h : Held) (leaves : Leaves) (start : ℕ) (bits : List Bool) (has_validity : Bool) (ns : List ℕ) (parts : List ColumnData) (head : Head) → AreParts h start bits ns parts → AllByRecursion IsFitting parts → ValidityFits has_validity (field_count has_validity (length (nodes_at h.nodes ns))) (nodes_at h.nodes ns) → IsBy h leaves → (k r : ℕ) → slice_get (rows_of start bits) k ≡ Some r →
    row_value leaves (handed_in h) h.offset (pack_plan head (plans_from (field_plans has_validity (map (plan_at h.nodes) ns))) (last_validity has_validity (map (plan_at h.nodes) ns))) r ≡ Some (packed_at (validity_part has_validity parts) (field_parts has_validity parts) k)
struct_here h leaves start bits false ns parts head all fit valid are k r at = ap (option_map struct_row) (field_values h leaves start bits ns parts all are k r at)
struct_here h leaves start bits true [] parts head all fit valid are k r at = absurd valid
struct_here h leaves start bits true (n ∷ ns) [] head all fit valid are k r at = absurd all
struct_here h leaves start bits true (n ∷ ns) (part ∷ parts) head all fit valid are k r at =
    let place : field_count true (length (nodes_at h.nodes (n ∷ ns))) ≡ length ns = omega (arith, length-map ns (node_at h.nodes)) in
    let t = has_truths h leaves start bits n ns part parts all fit are (field_count true (length (nodes_at h.nodes (n ∷ ns)))) place valid in
    let s : Datum = structure (items_at (front_parts (part ∷ parts)) k) in
    let v : Datum = slice_index_or t.last.values k null in
    let less : k < length (rows_of start bits) = slice_get_within (rows_of start bits) k r at in
    let long : length t.last.values ≡ length (rows_of start bits) = count_of_rows (row_value leaves (handed_in h) h.offset (last_plan (map (plan_at h.nodes) (n ∷ ns)))) (rows_of start bits) t.last.values t.values in
    let B : DataType → Type 0 = λ t. Fits t v in
    let is_truth : Fits (bool_type NonNullable) v = subst B t.dtype (fits_there t.last.dtype t.last.values k t.fit (omega arith)) in
    let own : row_value leaves (handed_in h) h.offset (last_plan (map (plan_at h.nodes) (n ∷ ns))) r ≡ Some v = value_there (row_value leaves (handed_in h) h.offset (last_plan (map (plan_at h.nodes) (n ∷ ns)))) (rows_of start bits) t.last.values t.values k r at in
    let fields : option_map struct_row (FieldValues h leaves (front_plans (map (plan_at h.nodes) (n ∷ ns))) r) ≡ Some s = ap (option_map struct_row) (front_values h leaves start bits n ns part parts all are k r at) in
    let mask : validity_part true (part ∷ parts) ≡ Some (map truth_in t.last.values) = ap truths_of t.is in
    ap (λ (o : Option Datum). on_both where_valid o (row_value leaves (handed_in h) h.offset (last_plan (map (plan_at h.nodes) (n ∷ ns))) r)) fields
    ∙ ap (on_both where_valid (Some s)) own
    ∙ ap Some (valid_cond s v is_truth ∙ ap (λ (b : Bool). cond b s null) (sym (truth_there t.last.values k)))
    ∙ ap (λ (m : Option (List Bool)). Some (packed_at m (front_parts (part ∷ parts)) k)) (sym mask)

pub structs_computed : (h : Held) → IsGoodTable h.nodes → (n start : ℕ) (bits : List Bool) (parts : List ColumnData) (column : ColumnData) → IsPackPlan h.nodes n → HasKind IsPack h.nodes n → AreParts h start bits (node_at h.nodes n).children parts → AllByRecursion IsFitting parts → column.values ≡ structs_at (has_validity_of (node_at h.nodes n).kind) parts (true_count bits) → Computes h n start bits (Ok column)
structs_computed h good n start bits parts column over known all fit values leaves are =
    let ns : List ℕ = (node_at h.nodes n).children in
    let p : Plan = pack_plan (head_of h.nodes n) (plans_from (field_plans over.has_validity (map (plan_at h.nodes) ns))) (last_validity over.has_validity (map (plan_at h.nodes) ns)) in
    let kind : has_validity_of (node_at h.nodes n).kind ≡ over.has_validity = ap has_validity_of over.kind in
    let g : ℕ → Datum = packed_at (validity_part over.has_validity parts) (field_parts over.has_validity parts) in
    let valid : ValidityFits over.has_validity (field_count over.has_validity (length (nodes_at h.nodes ns))) (nodes_at h.nodes ns) = validity_fits h.nodes good n over known in
    let F : Plan → Type 0 = λ q. Outcome leaves (handed_in h) h.offset q start bits (Ok column) in
    subst F (sym over.law)
    (by_places (row_value leaves (handed_in h) h.offset p) g (rows_of start bits) 0 (λ k r at.
    let zero_more : k ≡ 0 + k = omega arith in
    struct_here h leaves start bits over.has_validity ns parts (head_of h.nodes n) all fit valid are k r at ∙ ap (λ (j : ℕ). Some (g j)) zero_more)
    ∙ ap (λ (count : ℕ). map Some (map g (range_with_len 0 count))) (rows_count start bits)
    ∙ ap (map Some) (ap (λ (b : Bool). structs_at b parts (true_count bits)) (sym kind) ∙ sym values))

-- Which whole values selected rows of a plan ask for: those that are parts of it, and what the rows of its parts do.
use Rattle.std.proofs.Common.{◌≡◌, ℕ, zero, suc, ◌+◌, ◌-◌, ◌<◌, ◌⊎◌, inl, inr, ⊎_elim, min, Bool, List, [], ◌∷◌, ◌++◌, Option, Some, None, length, map, refl, sym, ap, ◌∙◌, subst}
use Rattle.std.specs.Prelude.{slice_range, nat_lt}
use Rattle.vx_picking.specs.Rows.{SelectsSome}
use Rattle.vx_plan.specs.declared.parts.Part.{Part}
use Rattle.vx_plan.specs.declared.parts.Part.TheVariants as parts
use Rattle.vx_plan.specs.declared.shapes.Shape.{Shape}
use Rattle.vx_plan.specs.declared.shapes.Shape.TheVariants as shapes
use Rattle.vx_plan.specs.Nodes.{Node}
use Rattle.vx_plan.specs.Parts.{chunk_parts, first_place, parts_of, same_rows, some_rows}
use Rattle.vx_plan.specs.Plans.{Plan, Plans, PlanValidity, no_plans, plan, all_valid, valid_as, no_plan, plan_head, plan_at, concat_plan, eval_plan, filter_plan, pack_plan, take_plan, share_plan, list_plan, row_idx_plan, scan_plan, zoned_plan, pruning_plan}
use Rattle.vx_plan.specs.Reaches.{all_rows}
use Rattle.vx_plan.specs.Rules.{node_at}
use Rattle.vx_plan.specs.Shapes.{HasShape}
use Rattle.vx_plan.specs.Tables.{IsGoodTable}
use Rattle.vx_plan.proofs.Collecting.{shape_there}
use Rattle.vx_plan.proofs.Parting.{chunks_left, fields_left, leaf_left, lists_left, look_up_left, numbers_left, over_left, pruned_left, same_left, shared_left, zoned_left}
use Rattle.vx_steps.specs.Given.{handed_by}
use Rattle.vx_steps.specs.KeptData.{Kept}
use Rattle.vx_steps.specs.PartVisits.{PartVisits, PartsVisit}
use Rattle.vx_steps.specs.Visits.{Test, Visits, VisitsIn, VisitsField, VisitsValidity, SomeVisit, IsWholeRead}
use Rattle.vx_steps.specs.Wholes.{Asks, IsWholeOf}
use Rattle.vx_steps.proofs.Parts.{parts_down, parts_either, parts_up, SomeOwn}
use Rattle.vx_steps.proofs.Shaping.{head_of, share_plan_at, take_plan_at, IsSharePlan, IsTakePlan}
use Rattle.vx_steps.proofs.Standing.{match_none}
use Rattle.vx_steps.proofs.Visiting.{RowVisits}

-- ---- inside whole values none are asked for

mutual
  pub none_inside : (m : ℕ) (p : Plan) (row : ℕ) → Visits (IsWholeRead m) None p row → ⊥
  none_inside m (no_plan head) row v = v
  none_inside m (concat_plan head children) row (inl v) = v
  none_inside m (concat_plan head children) row (inr v) = none_inside_in m children row v
  none_inside m (eval_plan head e child) row (inl v) = v
  none_inside m (eval_plan head e child) row (inr v) = none_inside m child row v
  none_inside m (filter_plan head child) row (inl v) = v
  none_inside m (filter_plan head child) row (inr v) = none_inside m child row v
  none_inside m (pack_plan head children validity) row (inl v) = v
  none_inside m (pack_plan head children validity) row (inr (inl v)) = none_inside_fields m children row v
  none_inside m (pack_plan head children validity) row (inr (inr v)) = none_inside_validity m validity row v
  none_inside m (take_plan head codes values) row (inl v) = v
  none_inside m (take_plan head codes values) row (inr (inl v)) = none_inside m codes row v
  none_inside m (take_plan head codes values) row (inr (inr (none, (other, less, v)))) = none_inside m values other v
  none_inside m (share_plan head child) row (inl v) = v
  none_inside m (share_plan head child) row (inr (none, (other, less, v))) = none_inside m child other v
  none_inside m (list_plan head elements offsets validity) row v = v
  none_inside m (row_idx_plan head) row v = v
  none_inside m (scan_plan head segment coding) row v = v
  none_inside m (zoned_plan head zones content table) row (inl v) = v
  none_inside m (zoned_plan head zones content table) row (inr v) = none_inside m content row v
  none_inside m (pruning_plan head pruning table) row (inl v) = v
  none_inside m (pruning_plan head pruning table) row (inr (other, less, v)) = none_inside m table other v

  none_inside_in : (m : ℕ) (ps : Plans) (row : ℕ) → VisitsIn (IsWholeRead m) None ps row → ⊥
  none_inside_in m no_plans row v = v
  none_inside_in m (plan first rest) row v =
      match_none (nat_lt row (plan_head first).rows) (Visits (IsWholeRead m) None first row) (VisitsIn (IsWholeRead m) None rest (row - (plan_head first).rows)) (none_inside m first row) (none_inside_in m rest (row - (plan_head first).rows)) v

  none_inside_fields : (m : ℕ) (ps : Plans) (row : ℕ) → VisitsField (IsWholeRead m) None ps row → ⊥
  none_inside_fields m no_plans row v = v
  none_inside_fields m (plan first rest) row (inl v) = none_inside m first row v
  none_inside_fields m (plan first rest) row (inr v) = none_inside_fields m rest row v

  none_inside_validity : (m : ℕ) (validity : PlanValidity) (row : ℕ) → VisitsValidity (IsWholeRead m) None validity row → ⊥
  none_inside_validity m all_valid row v = v
  none_inside_validity m (valid_as p) row v = none_inside m p row v

-- ---- parts

-- a part asks for these whole values: it is whole, or its rows do
abbrev pub PartAsks : List Node → List Kept → List Bool → Part → ℕ → Type 0
PartAsks nodes given bits (parts.Rows rows) m = Asks nodes given rows.child rows.start (slice_range bits rows.from rows.to) m
PartAsks nodes given bits (parts.All child) m = Asks nodes given child 0 (all_rows (node_at nodes child).rows) m
PartAsks nodes given bits (parts.Whole number child) m = number ≡ m

abbrev pub PartsAsk : List Node → List Kept → List Bool → List Part → ℕ → Type 0
PartsAsk nodes given bits [] m = ⊥
PartsAsk nodes given bits (part ∷ ps) m = PartAsks nodes given bits part m ⊎ PartsAsk nodes given bits ps m

-- ---- parts that are whole values

abbrev IsWholeAmong : ℕ → List Part → Type 0
IsWholeAmong m [] = ⊥
IsWholeAmong m (parts.Rows rows ∷ ps) = IsWholeAmong m ps
IsWholeAmong m (parts.All child ∷ ps) = IsWholeAmong m ps
IsWholeAmong m (parts.Whole number child ∷ ps) = (number ≡ m) ⊎ IsWholeAmong m ps

whole_or_visit : (nodes : List Node) (given : List Kept) (bits : List Bool) (ps : List Part) (m : ℕ) → PartsAsk nodes given bits ps m → IsWholeAmong m ps ⊎ PartsVisit (IsWholeRead m) nodes (Some given) bits ps
whole_or_visit nodes given bits [] m none = absurd none
whole_or_visit nodes given bits (parts.Rows rows ∷ ps) m (inl v) = inr (inl v)
whole_or_visit nodes given bits (parts.Rows rows ∷ ps) m (inr a) = ⊎_elim (λ (w : IsWholeAmong m ps). inl w) (λ (v : PartsVisit (IsWholeRead m) nodes (Some given) bits ps). inr (inr v)) (whole_or_visit nodes given bits ps m a)
whole_or_visit nodes given bits (parts.All child ∷ ps) m (inl v) = inr (inl v)
whole_or_visit nodes given bits (parts.All child ∷ ps) m (inr a) = ⊎_elim (λ (w : IsWholeAmong m ps). inl w) (λ (v : PartsVisit (IsWholeRead m) nodes (Some given) bits ps). inr (inr v)) (whole_or_visit nodes given bits ps m a)
whole_or_visit nodes given bits (parts.Whole number child ∷ ps) m (inl same) = inl (inl same)
whole_or_visit nodes given bits (parts.Whole number child ∷ ps) m (inr a) = ⊎_elim (λ (w : IsWholeAmong m ps). inl (inr w)) (λ (v : PartsVisit (IsWholeRead m) nodes (Some given) bits ps). inr (inr v)) (whole_or_visit nodes given bits ps m a)

either_asks : (nodes : List Node) (given : List Kept) (bits : List Bool) (ps : List Part) (m : ℕ) → IsWholeAmong m ps ⊎ PartsVisit (IsWholeRead m) nodes (Some given) bits ps → PartsAsk nodes given bits ps m
either_asks nodes given bits [] m (inl none) = none
either_asks nodes given bits [] m (inr none) = none
either_asks nodes given bits (parts.Rows rows ∷ ps) m (inl w) = inr (either_asks nodes given bits ps m (inl w))
either_asks nodes given bits (parts.Rows rows ∷ ps) m (inr (inl v)) = inl v
either_asks nodes given bits (parts.Rows rows ∷ ps) m (inr (inr v)) = inr (either_asks nodes given bits ps m (inr v))
either_asks nodes given bits (parts.All child ∷ ps) m (inl w) = inr (either_asks nodes given bits ps m (inl w))
either_asks nodes given bits (parts.All child ∷ ps) m (inr (inl v)) = inl v
either_asks nodes given bits (parts.All child ∷ ps) m (inr (inr v)) = inr (either_asks nodes given bits ps m (inr v))
either_asks nodes given bits (parts.Whole number child ∷ ps) m (inl (inl same)) = inl same
either_asks nodes given bits (parts.Whole number child ∷ ps) m (inl (inr w)) = inr (either_asks nodes given bits ps m (inl w))
either_asks nodes given bits (parts.Whole number child ∷ ps) m (inr (inl (none, (row, less, v)))) = absurd (none_inside m (plan_at nodes child) row v)
either_asks nodes given bits (parts.Whole number child ∷ ps) m (inr (inr v)) = inr (either_asks nodes given bits ps m (inr v))

no_fields : (m start count : ℕ) (ns : List ℕ) → IsWholeAmong m (map (same_rows start count) ns) → ⊥
no_fields m start count [] none = none
no_fields m start count (n ∷ ns) w = no_fields m start count ns w

no_chunks : (m : ℕ) (nodes : List Node) (ns : List ℕ) (skip from count : ℕ) → IsWholeAmong m (chunk_parts nodes ns skip from count) → ⊥
no_chunks m nodes [] skip from count none = none
no_chunks m nodes (n ∷ ns) skip from count w =
    no_chunks m nodes ns (skip - (node_at nodes n).rows) (from + min ((node_at nodes n).rows - skip) count) (count - min ((node_at nodes n).rows - skip) count) (behind (min ((node_at nodes n).rows - skip) count) (chunk_parts nodes ns (skip - (node_at nodes n).rows) (from + min ((node_at nodes n).rows - skip) count) (count - min ((node_at nodes n).rows - skip) count)) w)
  where
    behind : (here : ℕ) (ps : List Part) → IsWholeAmong m (some_rows here n skip from ++ ps) → IsWholeAmong m ps
    behind zero ps w = w
    behind (suc here) ps w = w

-- each is the whole of its child: it has the child's number, or is a share of it
abbrev AreWholes : List Node → List Part → Type 0
AreWholes nodes [] = Unit {0}
AreWholes nodes (parts.Rows rows ∷ ps) = AreWholes nodes ps
AreWholes nodes (parts.All child ∷ ps) = AreWholes nodes ps
AreWholes nodes (parts.Whole number child ∷ ps) = IsWholeOf nodes number child × AreWholes nodes ps

no_wholes : (nodes : List Node) (ps : List Part) → ((m : ℕ) → IsWholeAmong m ps → ⊥) → AreWholes nodes ps
no_wholes nodes [] none = tt
no_wholes nodes (parts.Rows rows ∷ ps) none = no_wholes nodes ps none
no_wholes nodes (parts.All child ∷ ps) none = no_wholes nodes ps none
no_wholes nodes (parts.Whole number child ∷ ps) none = absurd (none number (inl refl))

-- ---- each shape

-- Whole values that the plan itself asks for are such a part, and the other way round.
record Owns (nodes : List Node) (given : List Kept) (n start : ℕ) (bits : List Bool) (ps : List Part) : Type 0 where
  down : (m : ℕ) → SomeOwn (IsWholeRead m) (handed_by nodes (Some given)) (plan_at nodes n) start bits → IsWholeAmong m ps
  up : (m : ℕ) → IsWholeAmong m ps → Asks nodes given n start bits m
  wholes : AreWholes nodes ps

row_own : (nodes : List Node) (given : List Kept) (m row : ℕ) (p q : Plan) → p ≡ q → IsWholeRead m (handed_by nodes (Some given)) p row → IsWholeRead m (handed_by nodes (Some given)) q row
row_own nodes given m row p q law own = subst (λ (r : Plan). IsWholeRead m (handed_by nodes (Some given)) r row) law own

no_own : (nodes : List Node) (given : List Kept) (n start : ℕ) (bits : List Bool) (p : Plan) (ps : List Part) → plan_at nodes n ≡ p → ((m row : ℕ) → IsWholeRead m (handed_by nodes (Some given)) p row → ⊥) → ((m : ℕ) → IsWholeAmong m ps → ⊥) → Owns nodes given n start bits ps
no_own nodes given n start bits p ps law not none = record {
  down = λ m own. absurd (not m (start + own.0) (row_own nodes given m (start + own.0) (plan_at nodes n) p law own.2));
  up = λ m w. absurd (none m w);
  wholes = no_wholes nodes ps none;
}

owns_values : (nodes : List Node) (given : List Kept) (n codes values start : ℕ) (bits : List Bool) → SelectsSome bits → IsTakePlan nodes n codes values → Owns nodes given n start bits (same_rows start (length bits) codes ∷ parts.Whole values values ∷ [])
owns_values nodes given n codes values start bits some over = record {
  down = λ m own. inl (sym number ∙ row_own nodes given m (start + own.0) (plan_at nodes n) (take_plan (head_of nodes n) (plan_at nodes codes) (plan_at nodes values)) over.law own.2);
  up = up;
  wholes = (inl refl, tt);
}
  where
    number : (plan_head (plan_at nodes values)).number ≡ values
    number = ap (λ h. h.number) over.values_head

    up : (m : ℕ) → IsWholeAmong m (same_rows start (length bits) codes ∷ parts.Whole values values ∷ []) → Asks nodes given n start bits m
    up m (inl same) = subst (RowVisits (IsWholeRead m) (handed_by nodes (Some given)) start bits) (sym over.law) (some.0, some.1, inl (number ∙ same))
    up m (inr none) = absurd none

owns_shared : (nodes : List Node) (given : List Kept) (n child start : ℕ) (bits : List Bool) → SelectsSome bits → IsSharePlan nodes n child → HasShape nodes n (shapes.Shared child) → Owns nodes given n start bits (parts.Whole n child ∷ [])
owns_shared nodes given n child start bits some over has = record {
  down = λ m own. inl (row_own nodes given m (start + own.0) (plan_at nodes n) (share_plan (head_of nodes n) (plan_at nodes child)) over.law own.2);
  up = up;
  wholes = (inr has, tt);
}
  where
    up : (m : ℕ) → IsWholeAmong m (parts.Whole n child ∷ []) → Asks nodes given n start bits m
    up m (inl same) = subst (RowVisits (IsWholeRead m) (handed_by nodes (Some given)) start bits) (sym over.law) (some.0, some.1, inl same)
    up m (inr none) = absurd none

owned : (nodes : List Node) → IsGoodTable nodes → (given : List Kept) (n : ℕ) → n < length nodes → (shape : Shape) → HasShape nodes n shape → (start : ℕ) (bits : List Bool) → SelectsSome bits → Owns nodes given n start bits (parts_of nodes n start (length bits))
owned nodes good given n known (shapes.Leaf segment) has start bits some =
    subst (Owns nodes given n start bits) (sym (leaf_left nodes n segment known has start (length bits) first_place)) (no_own nodes given n start bits _ [] (shape_there nodes n (shapes.Leaf segment) known has).law (λ m row none. none) (λ m none. none))
owned nodes good given n known (shapes.Same child) has start bits some =
    subst (Owns nodes given n start bits) (sym (same_left nodes n child known has start (length bits) first_place)) (no_own nodes given n start bits _ (same_rows start (length bits) child ∷ []) (shape_there nodes n (shapes.Same child) known has).law (λ m row none. none) (λ m none. none))
owned nodes good given n known (shapes.Over child) has start bits some =
    subst (Owns nodes given n start bits) (sym (over_left nodes n child known has start (length bits) first_place)) (no_own nodes given n start bits _ (same_rows start (length bits) child ∷ []) (shape_there nodes n (shapes.Over child) known has).over.law (λ m row none. none) (λ m none. none))
owned nodes good given n known (shapes.Zoned content table) has start bits some =
    subst (Owns nodes given n start bits) (sym (zoned_left nodes n content table known has start (length bits) first_place)) (no_own nodes given n start bits _ (same_rows start (length bits) content ∷ []) (shape_there nodes n (shapes.Zoned content table) known has).over.law (λ m row none. none) (λ m none. none))
owned nodes good given n known shapes.Chunks has start bits some =
    subst (Owns nodes given n start bits) (sym (chunks_left nodes n known has start (length bits) first_place)) (no_own nodes given n start bits _ (chunk_parts nodes (node_at nodes n).children (start + 0) 0 (length bits - 0)) (shape_there nodes n shapes.Chunks known has).law (λ m row none. none) (λ m. no_chunks m nodes (node_at nodes n).children (start + 0) 0 (length bits - 0)))
owned nodes good given n known (shapes.Fields has_validity) has start bits some =
    subst (Owns nodes given n start bits) (sym (fields_left nodes n has_validity known has start (length bits) first_place)) (no_own nodes given n start bits _ (map (same_rows start (length bits)) (node_at nodes n).children) (shape_there nodes n (shapes.Fields has_validity) known has).law (λ m row none. none) (λ m. no_fields m start (length bits) (node_at nodes n).children))
owned nodes good given n known (shapes.LookUp codes values) has start bits some = subst (Owns nodes given n start bits) (sym (look_up_left nodes n codes values known has start (length bits) first_place)) (owns_values nodes given n codes values start bits some (take_plan_at nodes good n codes values known has))
owned nodes good given n known (shapes.Shared child) has start bits some = subst (Owns nodes given n start bits) (sym (shared_left nodes n child known has start (length bits) first_place)) (owns_shared nodes given n child start bits some (share_plan_at nodes good n child known has) has)
owned nodes good given n known (shapes.Pruned table) has start bits some =
    subst (Owns nodes given n start bits) (sym (pruned_left nodes n table known has start (length bits) first_place)) (no_own nodes given n start bits _ (parts.All table ∷ []) (shape_there nodes n (shapes.Pruned table) known has).over.law (λ m row none. none) (λ m none. none))
owned nodes good given n known shapes.Lists has start bits some =
    subst (Owns nodes given n start bits) (sym (lists_left nodes n known has start (length bits) first_place)) (no_own nodes given n start bits _ [] (shape_there nodes n shapes.Lists known has).over.law (λ m row none. none) (λ m none. none))
owned nodes good given n known shapes.RowNumbers has start bits some =
    subst (Owns nodes given n start bits) (sym (numbers_left nodes n known has start (length bits) first_place)) (no_own nodes given n start bits _ [] (shape_there nodes n shapes.RowNumbers known has).law (λ m row none. none) (λ m none. none))

-- ---- what selected rows of a plan ask for

pub parts_asked : (nodes : List Node) → IsGoodTable nodes → (given : List Kept) (n : ℕ) → n < length nodes → (shape : Shape) → HasShape nodes n shape → (start : ℕ) (bits : List Bool) → SelectsSome bits → (m : ℕ) → PartsAsk nodes given bits (parts_of nodes n start (length bits)) m → Asks nodes given n start bits m
parts_asked nodes good given n known shape has start bits some m asks =
    ⊎_elim (λ (w : IsWholeAmong m (parts_of nodes n start (length bits))). (owned nodes good given n known shape has start bits some).up m w) (λ (v : PartsVisit (IsWholeRead m) nodes (Some given) bits (parts_of nodes n start (length bits))). parts_up nodes good (Some given) n known shape has start bits some (IsWholeRead m) v)
    (whole_or_visit nodes given bits (parts_of nodes n start (length bits)) m asks)

pub asked_parts : (nodes : List Node) → IsGoodTable nodes → (given : List Kept) (n : ℕ) → n < length nodes → (shape : Shape) → HasShape nodes n shape → (start : ℕ) (bits : List Bool) → SelectsSome bits → (m : ℕ) → Asks nodes given n start bits m → PartsAsk nodes given bits (parts_of nodes n start (length bits)) m
asked_parts nodes good given n known shape has start bits some m asks =
    either_asks nodes given bits (parts_of nodes n start (length bits)) m
    (⊎_elim (λ (own : SomeOwn (IsWholeRead m) (handed_by nodes (Some given)) (plan_at nodes n) start bits). inl ((owned nodes good given n known shape has start bits some).down m own)) (λ (v : PartsVisit (IsWholeRead m) nodes (Some given) bits (parts_of nodes n start (length bits))). inr v)
    (parts_down nodes good (Some given) n known shape has start bits (IsWholeRead m) (λ row none. none) asks))

-- ---- one part of them

abbrev pub IsPartAmong : Part → List Part → Type 0
IsPartAmong part ps = (front : List Part) × (behind : List Part) × (ps ≡ front ++ part ∷ behind)

-- what one part visits, the plan visits
pub part_up : (nodes : List Node) → IsGoodTable nodes → (given : Option (List Kept)) (n : ℕ) → n < length nodes → (shape : Shape) → HasShape nodes n shape → (start : ℕ) (bits : List Bool) → SelectsSome bits → (part : Part) → IsPartAmong part (parts_of nodes n start (length bits)) →
    (P : Test) → PartVisits P nodes given bits part → SomeVisit P (handed_by nodes given) (plan_at nodes n) start bits
part_up nodes good given n known shape has start bits some part (front, behind, e) P v = parts_up nodes good given n known shape has start bits some P (subst (PartsVisit P nodes given bits) (sym e) (parts_either P nodes given bits front (part ∷ behind) (inr (inl v))))

asks_front : (nodes : List Node) (given : List Kept) (bits : List Bool) (front ps : List Part) (m : ℕ) → PartsAsk nodes given bits ps m → PartsAsk nodes given bits (front ++ ps) m
asks_front nodes given bits [] ps m asks = asks
asks_front nodes given bits (part ∷ front) ps m asks = inr (asks_front nodes given bits front ps m asks)

-- what one part asks for, the plan asks for
pub part_asked : (nodes : List Node) → IsGoodTable nodes → (given : List Kept) (n : ℕ) → n < length nodes → (shape : Shape) → HasShape nodes n shape → (start : ℕ) (bits : List Bool) → SelectsSome bits → (part : Part) → IsPartAmong part (parts_of nodes n start (length bits)) → (m : ℕ) → PartAsks nodes given bits part m → Asks nodes given n start bits m
part_asked nodes good given n known shape has start bits some part (front, behind, e) m asks =
    let F : List Part → Type 0 = λ ps. PartsAsk nodes given bits ps m in
    parts_asked nodes good given n known shape has start bits some m (subst F (sym e) (asks_front nodes given bits front (part ∷ behind) m (inl asks)))

wholes_behind : (nodes : List Node) (front ps : List Part) → AreWholes nodes (front ++ ps) → AreWholes nodes ps
wholes_behind nodes [] ps are = are
wholes_behind nodes (parts.Rows rows ∷ front) ps are = wholes_behind nodes front ps are
wholes_behind nodes (parts.All child ∷ front) ps are = wholes_behind nodes front ps are
wholes_behind nodes (parts.Whole number child ∷ front) ps are = wholes_behind nodes front ps are.1

pub whole_part : (nodes : List Node) → IsGoodTable nodes → (n : ℕ) → n < length nodes → (shape : Shape) → HasShape nodes n shape → (start : ℕ) (bits : List Bool) → SelectsSome bits → (number child : ℕ) → IsPartAmong (parts.Whole number child) (parts_of nodes n start (length bits)) → IsWholeOf nodes number child
whole_part nodes good n known shape has start bits some number child (front, behind, e) = (wholes_behind nodes front (parts.Whole number child ∷ behind) (subst (AreWholes nodes) e (owned nodes good [] n known shape has start bits some).wholes)).0

-- What selected rows of a plan visit is the plan itself, or what its parts visit.
use Rattle.std.proofs.Common.{◌≡◌, ℕ, zero, suc, ◌+◌, ◌-◌, ◌<◌, ◌≤◌, ◌⊎◌, inl, inr, ⊎_elim, min, Bool, true, false, ltb, List, [], ◌∷◌, ◌++◌, Option, Some, length, map, refl, sym, ap, ◌∙◌, subst, arith}
use Rattle.std.specs.Prelude.{slice_range}
use Rattle.std.specs.List.{slice_get}
use Rattle.std.proofs.lemmas.Bool.{cases_lt}
use Rattle.std.proofs.lemmas.List.Elements.{All-head, All-tail}
use Rattle.std.proofs.lemmas.Option.{slice_get_within}
use Rattle.vx_picking.specs.Rows.{SomeRow, SelectsSome}
use Rattle.vx_plan.specs.declared.parts.Part.{Part}
use Rattle.vx_plan.specs.declared.parts.Part.TheVariants as parts
use Rattle.vx_plan.specs.declared.shapes.Shape.{Shape}
use Rattle.vx_plan.specs.declared.shapes.Shape.TheVariants as shapes
use Rattle.vx_plan.specs.Nodes.{Node}
use Rattle.vx_plan.specs.Parts.{chunk_parts, first_place, parts_of, same_rows, some_rows}
use Rattle.vx_plan.specs.Plans.{Plan, Plans, plan, plan_head, plan_at, plans_from, field_plans, last_validity, concat_plan, filter_plan, pack_plan, pruning_plan, share_plan, take_plan}
use Rattle.vx_plan.specs.Reaches.{all_rows}
use Rattle.vx_plan.specs.Rules.{node_at}
use Rattle.vx_plan.specs.Shapes.{HasShape}
use Rattle.vx_plan.specs.Tables.{AreIn, IsGoodTable}
use Rattle.vx_plan.proofs.Collecting.{head_rows, shape_there}
use Rattle.vx_plan.proofs.Parting.{chunks_left, fields_left, leaf_left, lists_left, look_up_left, numbers_left, over_left, pruned_left, same_left, shared_left, zoned_left}
use Rattle.vx_steps.specs.declared.leaf_reads.LeafRead.{LeafRead}
use Rattle.vx_steps.specs.Given.{Handed, handed_by}
use Rattle.vx_steps.specs.KeptData.{Kept}
use Rattle.vx_steps.specs.Needs.{Adds, IsUnderWhole}
use Rattle.vx_steps.specs.PartVisits.{PartVisits, PartsVisit}
use Rattle.vx_steps.specs.Visits.{Test, Visits, VisitsIn, SomeVisit, IsLeafRead}
use Rattle.vx_steps.proofs.ChunkRows.{concat_plan_at}
use Rattle.vx_steps.proofs.Indexing.{take_all}
use Rattle.vx_steps.proofs.Selecting.{adds_as, adds_none, adds_then, got_range, none_given, range_got}
use Rattle.vx_steps.proofs.Shaping.{head_of, over_plan, pruning_plan_at, share_plan_at, take_plan_at, zoned_law, same_law}
use Rattle.vx_steps.proofs.Visiting.{any_packed, some_of_all, up_codes, up_over, up_same, up_shared, up_values, up_zoned, up_zones, packed_any, AnyVisits, NoGap, RowVisits}

-- ---- lists of parts

parts_or : (P : Test) (nodes : List Node) (given : Option (List Kept)) (bits : List Bool) (ps qs : List Part) → PartsVisit P nodes given bits (ps ++ qs) → PartsVisit P nodes given bits ps ⊎ PartsVisit P nodes given bits qs
parts_or P nodes given bits [] qs v = inr v
parts_or P nodes given bits (p ∷ ps) qs (inl v) = inl (inl v)
parts_or P nodes given bits (p ∷ ps) qs (inr v) = ⊎_elim (λ (a : PartsVisit P nodes given bits ps). inl (inr a)) (λ (b : PartsVisit P nodes given bits qs). inr b) (parts_or P nodes given bits ps qs v)

pub parts_either : (P : Test) (nodes : List Node) (given : Option (List Kept)) (bits : List Bool) (ps qs : List Part) → PartsVisit P nodes given bits ps ⊎ PartsVisit P nodes given bits qs → PartsVisit P nodes given bits (ps ++ qs)
parts_either P nodes given bits [] qs (inl none) = absurd none
parts_either P nodes given bits [] qs (inr v) = v
parts_either P nodes given bits (p ∷ ps) qs (inl (inl v)) = inl v
parts_either P nodes given bits (p ∷ ps) qs (inl (inr v)) = inr (parts_either P nodes given bits ps qs (inl v))
parts_either P nodes given bits (p ∷ ps) qs (inr v) = inr (parts_either P nodes given bits ps qs (inr v))

-- ---- all rows that are asked for

all_taken : (bits : List Bool) → slice_range bits 0 (length bits) ≡ bits
all_taken bits = take_all bits (length bits - 0) (omega arith)

abbrev Rows : Test → List Node → Option (List Kept) → ℕ → ℕ → List Bool → Type 0
Rows P nodes given child start bits = SomeVisit P (handed_by nodes given) (plan_at nodes child) start bits

same_up : (P : Test) (nodes : List Node) (given : Option (List Kept)) (child start : ℕ) (bits : List Bool) → PartVisits P nodes given bits (same_rows start (length bits) child) → Rows P nodes given child start bits
same_up P nodes given child start bits v = subst (Rows P nodes given child start) (all_taken bits) v

same_down : (P : Test) (nodes : List Node) (given : Option (List Kept)) (child start : ℕ) (bits : List Bool) → Rows P nodes given child start bits → PartVisits P nodes given bits (same_rows start (length bits) child)
same_down P nodes given child start bits v = subst (Rows P nodes given child start) (sym (all_taken bits)) v

-- ---- fields

each_up : (P : Test) (nodes : List Node) (given : Option (List Kept)) (start : ℕ) (bits : List Bool) (ns : List ℕ) → PartsVisit P nodes given bits (map (same_rows start (length bits)) ns) → SomeRow (AnyVisits P (handed_by nodes given) (map (plan_at nodes) ns)) start bits
each_up P nodes given start bits [] none = absurd none
each_up P nodes given start bits (n ∷ ns) (inl v) =
    let r : Rows P nodes given n start bits = same_up P nodes given n start bits v in
    (r.0, r.1, inl r.2)
each_up P nodes given start bits (n ∷ ns) (inr v) =
    let r = each_up P nodes given start bits ns v in
    (r.0, r.1, inr r.2)

each_down : (P : Test) (nodes : List Node) (given : Option (List Kept)) (start : ℕ) (bits : List Bool) (ns : List ℕ) (place : ℕ) → slice_get bits place ≡ Some true → AnyVisits P (handed_by nodes given) (map (plan_at nodes) ns) (start + place) → PartsVisit P nodes given bits (map (same_rows start (length bits)) ns)
each_down P nodes given start bits [] place at none = none
each_down P nodes given start bits (n ∷ ns) place at (inl v) = inl (same_down P nodes given n start bits (place, at, v))
each_down P nodes given start bits (n ∷ ns) place at (inr v) = inr (each_down P nodes given start bits ns place at v)

-- ---- chunks

lt_true : (a b : ℕ) → a < b → ltb a b ≡ true
lt_true a b h = grind arith

lt_false : (a b : ℕ) → b ≤ a → ltb a b ≡ false
lt_false a b h = grind arith

in_first : (P : Test) (handed : Handed) (first : Plan) (rest : Plans) (row : ℕ) → row < (plan_head first).rows → Visits P handed first row → VisitsIn P handed (plan first rest) row
in_first P handed first rest row h v = rw (lt_true row (plan_head first).rows h) v

in_rest : (P : Test) (handed : Handed) (first : Plan) (rest : Plans) (row : ℕ) → (plan_head first).rows ≤ row → VisitsIn P handed rest (row - (plan_head first).rows) → VisitsIn P handed (plan first rest) row
in_rest P handed first rest row h v = rw (lt_false row (plan_head first).rows h) v

of_first : (P : Test) (handed : Handed) (first : Plan) (rest : Plans) (row : ℕ) → row < (plan_head first).rows → VisitsIn P handed (plan first rest) row → Visits P handed first row
of_first P handed first rest row h v = rw (lt_true row (plan_head first).rows h) at v

of_rest : (P : Test) (handed : Handed) (first : Plan) (rest : Plans) (row : ℕ) → (plan_head first).rows ≤ row → VisitsIn P handed (plan first rest) row → VisitsIn P handed rest (row - (plan_head first).rows)
of_rest P handed first rest row h v = rw (lt_false row (plan_head first).rows h) at v

-- one of so many rows, from a place of the mask on
abbrev SomeOf : (ℕ → Type 0) → ℕ → List Bool → ℕ → ℕ → Type 0
SomeOf Q skip bits from count = (place : ℕ) × (place < count) × (slice_get bits (from + place) ≡ Some true) × Q (skip + place)

some_up : (P : Test) (nodes : List Node) (given : Option (List Kept)) (bits : List Bool) (here child skip from : ℕ) → PartsVisit P nodes given bits (some_rows here child skip from) → SomeOf (Visits P (handed_by nodes given) (plan_at nodes child)) skip bits from here
some_up P nodes given bits zero child skip from none = absurd none
some_up P nodes given bits (suc here) child skip from (inl (place, at, v)) =
    let t = got_range bits from (suc here) place true at in
    (place, t.0, t.1, v)
some_up P nodes given bits (suc here) child skip from (inr none) = absurd none

some_down : (P : Test) (nodes : List Node) (given : Option (List Kept)) (bits : List Bool) (here child skip from : ℕ) → SomeOf (Visits P (handed_by nodes given) (plan_at nodes child)) skip bits from here → PartsVisit P nodes given bits (some_rows here child skip from)
some_down P nodes given bits zero child skip from (place, lt, at, v) = absurd (omega arith)
some_down P nodes given bits (suc here) child skip from (place, lt, at, v) = inl (place, range_got bits from (suc here) place true lt at, v)

abbrev plans_at : List Node → List ℕ → Plans
plans_at nodes ns = plans_from (map (plan_at nodes) ns)

chunks_up : (P : Test) (nodes : List Node) → IsGoodTable nodes → (given : Option (List Kept)) (bits : List Bool) (ns : List ℕ) → AreIn nodes ns → (skip from count : ℕ) → PartsVisit P nodes given bits (chunk_parts nodes ns skip from count) → SomeOf (VisitsIn P (handed_by nodes given) (plans_at nodes ns)) skip bits from count
chunks_up P nodes good given bits [] known skip from count none = absurd none
chunks_up P nodes good given bits (n ∷ ns) known skip from count v =
    let there : n < length nodes = All-head (λ m. m < length nodes) n ns known in
    let same : (plan_head (plan_at nodes n)).rows ≡ (node_at nodes n).rows = head_rows nodes good n there in
    ⊎_elim (λ (a : PartsVisit P nodes given bits (some_rows (min ((node_at nodes n).rows - skip) count) n skip from)). here same (some_up P nodes given bits (min ((node_at nodes n).rows - skip) count) n skip from a))
    (λ (b : PartsVisit P nodes given bits (chunk_parts nodes ns (skip - (node_at nodes n).rows) (from + min ((node_at nodes n).rows - skip) count) (count - min ((node_at nodes n).rows - skip) count))). behind same (chunks_up P nodes good given bits ns (All-tail (λ m. m < length nodes) n ns known) (skip - (node_at nodes n).rows) (from + min ((node_at nodes n).rows - skip) count) (count - min ((node_at nodes n).rows - skip) count) b))
    (parts_or P nodes given bits (some_rows (min ((node_at nodes n).rows - skip) count) n skip from) (chunk_parts nodes ns (skip - (node_at nodes n).rows) (from + min ((node_at nodes n).rows - skip) count) (count - min ((node_at nodes n).rows - skip) count)) v)
  where
    here : (plan_head (plan_at nodes n)).rows ≡ (node_at nodes n).rows → SomeOf (Visits P (handed_by nodes given) (plan_at nodes n)) skip bits from (min ((node_at nodes n).rows - skip) count) → SomeOf (VisitsIn P (handed_by nodes given) (plans_at nodes (n ∷ ns))) skip bits from count
    here same (place, lt, at, w) = (place, omega arith, at, in_first P (handed_by nodes given) (plan_at nodes n) (plans_at nodes ns) (skip + place) (omega arith) w)

    behind : (plan_head (plan_at nodes n)).rows ≡ (node_at nodes n).rows → SomeOf (VisitsIn P (handed_by nodes given) (plans_at nodes ns)) (skip - (node_at nodes n).rows) bits (from + min ((node_at nodes n).rows - skip) count) (count - min ((node_at nodes n).rows - skip) count) → SomeOf (VisitsIn P (handed_by nodes given) (plans_at nodes (n ∷ ns))) skip bits from count
    behind same (place, lt, at, w) =
        let more : ℕ = min ((node_at nodes n).rows - skip) count + place in
        let e : from + min ((node_at nodes n).rows - skip) count + place ≡ from + (min ((node_at nodes n).rows - skip) count + place) = omega arith in
        let f : skip - (node_at nodes n).rows + place ≡ skip + (min ((node_at nodes n).rows - skip) count + place) - (plan_head (plan_at nodes n)).rows = omega arith in
        (min ((node_at nodes n).rows - skip) count + place, omega arith, sym (ap (slice_get bits) e) ∙ at, in_rest P (handed_by nodes given) (plan_at nodes n) (plans_at nodes ns) (skip + (min ((node_at nodes n).rows - skip) count + place)) (omega arith) (subst (VisitsIn P (handed_by nodes given) (plans_at nodes ns)) f w))

chunks_down : (P : Test) (nodes : List Node) → IsGoodTable nodes → (given : Option (List Kept)) (bits : List Bool) (ns : List ℕ) → AreIn nodes ns → (skip from count : ℕ) → SomeOf (VisitsIn P (handed_by nodes given) (plans_at nodes ns)) skip bits from count → PartsVisit P nodes given bits (chunk_parts nodes ns skip from count)
chunks_down P nodes good given bits [] known skip from count (place, lt, at, v) = v
chunks_down P nodes good given bits (n ∷ ns) known skip from count (place, lt, at, v) =
    let there : n < length nodes = All-head (λ m. m < length nodes) n ns known in
    let same : (plan_head (plan_at nodes n)).rows ≡ (node_at nodes n).rows = head_rows nodes good n there in
    let h : ℕ = min ((node_at nodes n).rows - skip) count in
    parts_either P nodes given bits (some_rows (min ((node_at nodes n).rows - skip) count) n skip from) (chunk_parts nodes ns (skip - (node_at nodes n).rows) (from + min ((node_at nodes n).rows - skip) count) (count - min ((node_at nodes n).rows - skip) count))
    (⊎_elim (λ (first : skip + place < (node_at nodes n).rows). inl (some_down P nodes given bits (min ((node_at nodes n).rows - skip) count) n skip from (place, omega arith, at, of_first P (handed_by nodes given) (plan_at nodes n) (plans_at nodes ns) (skip + place) (omega arith) v)))
    (λ (past : (node_at nodes n).rows ≤ skip + place). inr (behind same past (chunks_down P nodes good given bits ns (All-tail (λ m. m < length nodes) n ns known) (skip - (node_at nodes n).rows) (from + min ((node_at nodes n).rows - skip) count) (count - min ((node_at nodes n).rows - skip) count))))
    (cases_lt (skip + place) (node_at nodes n).rows))
  where
    behind : (plan_head (plan_at nodes n)).rows ≡ (node_at nodes n).rows → (node_at nodes n).rows ≤ skip + place → (SomeOf (VisitsIn P (handed_by nodes given) (plans_at nodes ns)) (skip - (node_at nodes n).rows) bits (from + min ((node_at nodes n).rows - skip) count) (count - min ((node_at nodes n).rows - skip) count) → PartsVisit P nodes given bits (chunk_parts nodes ns (skip - (node_at nodes n).rows) (from + min ((node_at nodes n).rows - skip) count) (count - min ((node_at nodes n).rows - skip) count))) → PartsVisit P nodes given bits (chunk_parts nodes ns (skip - (node_at nodes n).rows) (from + min ((node_at nodes n).rows - skip) count) (count - min ((node_at nodes n).rows - skip) count))
    behind same past rest =
        let e : from + place ≡ from + min ((node_at nodes n).rows - skip) count + (place - min ((node_at nodes n).rows - skip) count) = omega arith in
        let f : skip + place - (plan_head (plan_at nodes n)).rows ≡ skip - (node_at nodes n).rows + (place - min ((node_at nodes n).rows - skip) count) = omega arith in
        rest (place - min ((node_at nodes n).rows - skip) count, omega arith, ap (slice_get bits) (sym e) ∙ at, subst (VisitsIn P (handed_by nodes given) (plans_at nodes ns)) f (of_rest P (handed_by nodes given) (plan_at nodes n) (plans_at nodes ns) (skip + place) (omega arith) v))

-- ---- each shape

-- a selected row visits the plan itself
abbrev pub SomeOwn : Test → Handed → Plan → ℕ → List Bool → Type 0
SomeOwn P handed p start bits = SomeRow (P handed p) start bits

-- what one part visits, the plan visits
pub parts_up : (nodes : List Node) → IsGoodTable nodes → (given : Option (List Kept)) (n : ℕ) → n < length nodes → (shape : Shape) → HasShape nodes n shape → (start : ℕ) (bits : List Bool) → SelectsSome bits → (P : Test) →
    PartsVisit P nodes given bits (parts_of nodes n start (length bits)) → SomeVisit P (handed_by nodes given) (plan_at nodes n) start bits
parts_up nodes good given n known (shapes.Leaf segment) has start bits some P v = absurd (subst (PartsVisit P nodes given bits) (leaf_left nodes n segment known has start (length bits) first_place) v)
parts_up nodes good given n known (shapes.Same child) has start bits some P v =
    up_same nodes (handed_by nodes given) n child start bits (same_law nodes n child known has) P (⊎_elim (λ (a : PartVisits P nodes given bits (same_rows start (length bits) child)). same_up P nodes given child start bits a) (λ (none : ⊥). absurd none) (subst (PartsVisit P nodes given bits) (same_left nodes n child known has start (length bits) first_place) v))
parts_up nodes good given n known (shapes.Over child) has start bits some P v =
    up_over nodes (handed_by nodes given) n child start bits (over_plan nodes good n child known has) P (⊎_elim (λ (a : PartVisits P nodes given bits (same_rows start (length bits) child)). same_up P nodes given child start bits a) (λ (none : ⊥). absurd none) (subst (PartsVisit P nodes given bits) (over_left nodes n child known has start (length bits) first_place) v))
parts_up nodes good given n known (shapes.Zoned content table) has start bits some P v =
    up_zoned nodes (handed_by nodes given) n content table start bits (zoned_law nodes n content table known has) P (⊎_elim (λ (a : PartVisits P nodes given bits (same_rows start (length bits) content)). same_up P nodes given content start bits a) (λ (none : ⊥). absurd none) (subst (PartsVisit P nodes given bits) (zoned_left nodes n content table known has start (length bits) first_place) v))
parts_up nodes good given n known shapes.Chunks has start bits some P v =
    let over = concat_plan_at nodes n known has in
    let r = chunks_up P nodes good given bits (node_at nodes n).children over.known (start + 0) 0 (length bits - 0) (subst (PartsVisit P nodes given bits) (chunks_left nodes n known has start (length bits) first_place) v) in
    let e : 0 + r.0 ≡ r.0 = omega arith in
    let f : start + 0 + r.0 ≡ start + r.0 = omega arith in
    subst (RowVisits P (handed_by nodes given) start bits) (sym over.law) (r.0, sym (ap (slice_get bits) e) ∙ r.2, inr (subst (VisitsIn P (handed_by nodes given) (plans_at nodes (node_at nodes n).children)) f r.3))
parts_up nodes good given n known (shapes.Fields has_validity) has start bits some P v =
    let ps : List Plan = map (plan_at nodes) (node_at nodes n).children in
    let r = each_up P nodes given start bits (node_at nodes n).children (subst (PartsVisit P nodes given bits) (fields_left nodes n has_validity known has start (length bits) first_place) v) in
    subst (RowVisits P (handed_by nodes given) start bits) (sym (shape_there nodes n (shapes.Fields has_validity) known has).law) (r.0, r.1, inr (any_packed P (handed_by nodes given) has_validity (map (plan_at nodes) (node_at nodes n).children) (start + r.0) r.2))
parts_up nodes good given n known (shapes.LookUp codes values) has start bits some P v =
    let over = take_plan_at nodes good n codes values known has in
    ⊎_elim (λ (a : PartVisits P nodes given bits (same_rows start (length bits) codes)). up_codes nodes (handed_by nodes given) n codes values start bits over P (same_up P nodes given codes start bits a))
    (λ (b : IsUnderWhole nodes given values P values ⊎ ⊥). ⊎_elim (λ (w : IsUnderWhole nodes given values P values). up_values nodes given n codes values start bits over some w.0 P w.1) (λ (none : ⊥). absurd none) b)
    (subst (PartsVisit P nodes given bits) (look_up_left nodes n codes values known has start (length bits) first_place) v)
parts_up nodes good given n known (shapes.Shared child) has start bits some P v =
    let over = share_plan_at nodes good n child known has in
    ⊎_elim (λ (w : IsUnderWhole nodes given n P child). up_shared nodes given n child start bits over some w.0 P w.1) (λ (none : ⊥). absurd none)
    (subst (PartsVisit P nodes given bits) (shared_left nodes n child known has start (length bits) first_place) v)
parts_up nodes good given n known (shapes.Pruned table) has start bits some P v =
    ⊎_elim (λ (r : Rows P nodes given table 0 (all_rows (node_at nodes table).rows)). up_zones nodes (handed_by nodes given) n table start bits (pruning_plan_at nodes good n table known has) some P r) (λ (none : ⊥). absurd none)
    (subst (PartsVisit P nodes given bits) (pruned_left nodes n table known has start (length bits) first_place) v)
parts_up nodes good given n known shapes.Lists has start bits some P v = absurd (subst (PartsVisit P nodes given bits) (lists_left nodes n known has start (length bits) first_place) v)
parts_up nodes good given n known shapes.RowNumbers has start bits some P v = absurd (subst (PartsVisit P nodes given bits) (numbers_left nodes n known has start (length bits) first_place) v)

abbrev Downs : List Node → Option (List Kept) → ℕ → ℕ → List Bool → Test → List Part → Type 0
Downs nodes given n start bits P ps = SomeOwn P (handed_by nodes given) (plan_at nodes n) start bits ⊎ PartsVisit P nodes given bits ps

-- the plan of the number is p, whose row has the visit at the place
own_row : (nodes : List Node) (given : Option (List Kept)) (n start : ℕ) (bits : List Bool) (P : Test) (p : Plan) → plan_at nodes n ≡ p → (place : ℕ) → slice_get bits place ≡ Some true → P (handed_by nodes given) p (start + place) → SomeOwn P (handed_by nodes given) (plan_at nodes n) start bits
own_row nodes given n start bits P p law place at own = let F : Plan → Type 0 = λ q. SomeOwn P (handed_by nodes given) q start bits in subst F (sym law) (place, at, own)

-- of a plan that visits nothing but itself
own_down : (nodes : List Node) (given : Option (List Kept)) (n start : ℕ) (bits : List Bool) (P : Test) (p : Plan) → plan_at nodes n ≡ p → ((row : ℕ) → Visits P (handed_by nodes given) p row → P (handed_by nodes given) p row) → (ps : List Part) → SomeVisit P (handed_by nodes given) (plan_at nodes n) start bits → Downs nodes given n start bits P ps
own_down nodes given n start bits P p law own ps v =
    let r : RowVisits P (handed_by nodes given) start bits p = subst (RowVisits P (handed_by nodes given) start bits) law v in
    inl (own_row nodes given n start bits P p law r.0 r.1 (own (start + r.0) r.2))

-- of a plan that visits itself, and its child's row
child_down : (nodes : List Node) (given : Option (List Kept)) (n child start : ℕ) (bits : List Bool) (P : Test) (p : Plan) → plan_at nodes n ≡ p → ((row : ℕ) → Visits P (handed_by nodes given) p row → P (handed_by nodes given) p row ⊎ Visits P (handed_by nodes given) (plan_at nodes child) row) → SomeVisit P (handed_by nodes given) (plan_at nodes n) start bits → Downs nodes given n start bits P (same_rows start (length bits) child ∷ [])
child_down nodes given n child start bits P p law split v =
    let r : RowVisits P (handed_by nodes given) start bits p = subst (RowVisits P (handed_by nodes given) start bits) law v in
    ⊎_elim (λ (own : P (handed_by nodes given) p (start + r.0)). inl (own_row nodes given n start bits P p law r.0 r.1 own)) (λ (w : Visits P (handed_by nodes given) (plan_at nodes child) (start + r.0)). inr (inl (same_down P nodes given child start bits (r.0, r.1, w)))) (split (start + r.0) r.2)

-- what the plan visits, it is itself, or one part visits it
pub parts_down : (nodes : List Node) → IsGoodTable nodes → (given : Option (List Kept)) (n : ℕ) → n < length nodes → (shape : Shape) → HasShape nodes n shape → (start : ℕ) (bits : List Bool) → (P : Test) → NoGap P (handed_by nodes given) → SomeVisit P (handed_by nodes given) (plan_at nodes n) start bits →
    SomeOwn P (handed_by nodes given) (plan_at nodes n) start bits ⊎ PartsVisit P nodes given bits (parts_of nodes n start (length bits))
parts_down nodes good given n known (shapes.Leaf segment) has start bits P gap v = own_down nodes given n start bits P _ (shape_there nodes n (shapes.Leaf segment) known has).law (λ row own. own) _ v
parts_down nodes good given n known (shapes.Same child) has start bits P gap v = subst (Downs nodes given n start bits P) (sym (same_left nodes n child known has start (length bits) first_place)) (child_down nodes given n child start bits P (filter_plan (head_of nodes n) (plan_at nodes child)) (same_law nodes n child known has) (λ row w. w) v)
parts_down nodes good given n known (shapes.Over child) has start bits P gap v = subst (Downs nodes given n start bits P) (sym (over_left nodes n child known has start (length bits) first_place)) (child_down nodes given n child start bits P _ (over_plan nodes good n child known has).plan.law (λ row w. w) v)
parts_down nodes good given n known (shapes.Zoned content table) has start bits P gap v = subst (Downs nodes given n start bits P) (sym (zoned_left nodes n content table known has start (length bits) first_place)) (child_down nodes given n content start bits P _ (zoned_law nodes n content table known has).law (λ row w. w) v)
parts_down nodes good given n known shapes.Chunks has start bits P gap v =
    let over = concat_plan_at nodes n known has in
    let r : RowVisits P (handed_by nodes given) start bits (concat_plan (head_of nodes n) (plans_at nodes (node_at nodes n).children)) = subst (RowVisits P (handed_by nodes given) start bits) over.law v in
    let less : r.0 < length bits = slice_get_within bits r.0 true r.1 in
    let e : r.0 ≡ 0 + r.0 = omega arith in
    let f : start + r.0 ≡ start + 0 + r.0 = omega arith in
    subst (Downs nodes given n start bits P) (sym (chunks_left nodes n known has start (length bits) first_place))
    (⊎_elim (λ (own : P (handed_by nodes given) (concat_plan (head_of nodes n) (plans_at nodes (node_at nodes n).children)) (start + r.0)). inl (own_row nodes given n start bits P (concat_plan (head_of nodes n) (plans_at nodes (node_at nodes n).children)) over.law r.0 r.1 own))
    (λ (w : VisitsIn P (handed_by nodes given) (plans_at nodes (node_at nodes n).children) (start + r.0)). inr (chunks_down P nodes good given bits (node_at nodes n).children over.known (start + 0) 0 (length bits - 0) (r.0, omega arith, sym (ap (slice_get bits) e) ∙ r.1, subst (VisitsIn P (handed_by nodes given) (plans_at nodes (node_at nodes n).children)) f w)))
    r.2)
parts_down nodes good given n known (shapes.Fields has_validity) has start bits P gap v =
    let law = (shape_there nodes n (shapes.Fields has_validity) known has).law in
    let ps : List Plan = map (plan_at nodes) (node_at nodes n).children in
    let p : Plan = pack_plan (head_of nodes n) (plans_from (field_plans has_validity (map (plan_at nodes) (node_at nodes n).children))) (last_validity has_validity (map (plan_at nodes) (node_at nodes n).children)) in
    let r : RowVisits P (handed_by nodes given) start bits p = subst (RowVisits P (handed_by nodes given) start bits) law v in
    subst (Downs nodes given n start bits P) (sym (fields_left nodes n has_validity known has start (length bits) first_place))
    (⊎_elim (λ (own : P (handed_by nodes given) p (start + r.0)). inl (own_row nodes given n start bits P p law r.0 r.1 own)) (λ w. inr (each_down P nodes given start bits (node_at nodes n).children r.0 r.1 (packed_any P (handed_by nodes given) has_validity (map (plan_at nodes) (node_at nodes n).children) (start + r.0) gap w))) r.2)
parts_down nodes good given n known (shapes.LookUp codes values) has start bits P gap v =
    let over = take_plan_at nodes good n codes values known has in
    subst (Downs nodes given n start bits P) (sym (look_up_left nodes n codes values known has start (length bits) first_place)) (by (subst (RowVisits P (handed_by nodes given) start bits) over.law v))
  where
    by : RowVisits P (handed_by nodes given) start bits (take_plan (head_of nodes n) (plan_at nodes codes) (plan_at nodes values)) → Downs nodes given n start bits P (same_rows start (length bits) codes ∷ parts.Whole values values ∷ [])
    by (place, at, inl own) = inl (own_row nodes given n start bits P (take_plan (head_of nodes n) (plan_at nodes codes) (plan_at nodes values)) (take_plan_at nodes good n codes values known has).law place at own)
    by (place, at, inr (inl w)) = inr (inl (same_down P nodes given codes start bits (place, at, w)))
    by (place, at, inr (inr (none, (other, less, w)))) =
        let o = take_plan_at nodes good n codes values known has in
        let lt : other < (node_at nodes values).rows = rw o.values_head at less in
        inr (inr (inl (none_given nodes given n values o.given none, (other, lt, w))))
parts_down nodes good given n known (shapes.Shared child) has start bits P gap v =
    let over = share_plan_at nodes good n child known has in
    subst (Downs nodes given n start bits P) (sym (shared_left nodes n child known has start (length bits) first_place)) (by (subst (RowVisits P (handed_by nodes given) start bits) over.law v))
  where
    by : RowVisits P (handed_by nodes given) start bits (share_plan (head_of nodes n) (plan_at nodes child)) → Downs nodes given n start bits P (parts.Whole n child ∷ [])
    by (place, at, inl own) = inl (own_row nodes given n start bits P (share_plan (head_of nodes n) (plan_at nodes child)) (share_plan_at nodes good n child known has).law place at own)
    by (place, at, inr (none, (other, less, w))) =
        let o = share_plan_at nodes good n child known has in
        let lt : other < (node_at nodes child).rows = rw o.child_head at less in
        inr (inl (none_given nodes given n n o.given none, (other, lt, w)))
parts_down nodes good given n known (shapes.Pruned table) has start bits P gap v =
    let over = pruning_plan_at nodes good n table known has in
    subst (Downs nodes given n start bits P) (sym (pruned_left nodes n table known has start (length bits) first_place)) (by (subst (RowVisits P (handed_by nodes given) start bits) over.law v))
  where
    by : RowVisits P (handed_by nodes given) start bits (pruning_plan (head_of nodes n) (pruning_plan_at nodes good n table known has).pruning (plan_at nodes table)) → Downs nodes given n start bits P (parts.All table ∷ [])
    by (place, at, inl own) = inl (own_row nodes given n start bits P (pruning_plan (head_of nodes n) (pruning_plan_at nodes good n table known has).pruning (plan_at nodes table)) (pruning_plan_at nodes good n table known has).law place at own)
    by (place, at, inr (other, less, w)) =
        let o = pruning_plan_at nodes good n table known has in
        let lt : other < (node_at nodes table).rows = rw o.table_head at less in
        inr (inl (some_of_all P (handed_by nodes given) (plan_at nodes table) (node_at nodes table).rows other lt w))
parts_down nodes good given n known shapes.Lists has start bits P gap v =
    own_down nodes given n start bits P _ (shape_there nodes n shapes.Lists known has).over.law (λ row own. own) _ v
parts_down nodes good given n known shapes.RowNumbers has start bits P gap v = own_down nodes given n start bits P _ (shape_there nodes n shapes.RowNumbers known has).law (λ row own. own) _ v

-- ---- lists to which what is visited is added, part by part

pub next_adds : {X : Type 0} (T : X → Test) (nodes : List Node) (given : Option (List Kept)) (bits : List Bool) (left behind : List Part) (part made : Part) → left ≡ part ∷ behind → part ≡ made → (Goal : List X → Type 0) (old mid : List X) →
    ((new : List X) → Adds (λ x. PartsVisit (T x) nodes given bits left) old new → Goal new) → Adds (λ x. PartVisits (T x) nodes given bits made) old mid → (new : List X) → Adds (λ x. PartsVisit (T x) nodes given bits behind) mid new → Goal new
next_adds {X} T nodes given bits left behind part made e same Goal old mid far here new rest =
    let F : Part → Type 0 = λ p. Adds (λ x. PartVisits (T x) nodes given bits p) old mid in
    let G : List Part → Type 0 = λ ps. Adds (λ x. PartsVisit (T x) nodes given bits ps) old new in
    far new (subst G (sym e) (adds_then (λ x. PartVisits (T x) nodes given bits part) (λ x. PartsVisit (T x) nodes given bits behind) old mid new (subst F (sym same) here) rest))

-- all parts were gone through
pub parts_done : {X : Type 0} (T : X → Test) (nodes : List Node) (given : Option (List Kept)) (bits : List Bool) (left : List Part) → left ≡ [] → (Goal : List X → Type 0) (new : List X) → ((all : List X) → Adds (λ x. PartsVisit (T x) nodes given bits left) new all → Goal all) → Goal new
parts_done {X} T nodes given bits left e Goal new far =
    let G : List Part → Type 0 = λ ps. Adds (λ x. PartsVisit (T x) nodes given bits ps) new new in
    far new (subst G (sym e) (adds_none (λ x. PartsVisit (T x) nodes given bits []) new (λ x none. none)))

-- a plan that is no leaf reads what its parts do
by_law : (read : LeafRead) (handed : Handed) (row : ℕ) (p q : Plan) → p ≡ q → (IsLeafRead read handed q row → ⊥) → IsLeafRead read handed p row → ⊥
by_law read handed row p q law not own = let F : Plan → Type 0 = λ r. IsLeafRead read handed r row in not (subst F law own)

pub leaf_alone : (nodes : List Node) (n : ℕ) → n < length nodes → (shape : Shape) → HasShape nodes n shape → ((segment : ℕ) → shape ≡ shapes.Leaf segment → ⊥) → (read : LeafRead) (handed : Handed) (row : ℕ) → IsLeafRead read handed (plan_at nodes n) row → ⊥
leaf_alone nodes n known (shapes.Leaf segment) has not read handed row own = not segment refl
leaf_alone nodes n known (shapes.Same child) has not read handed row own = by_law read handed row (plan_at nodes n) _ (shape_there nodes n (shapes.Same child) known has).law (λ h. h) own
leaf_alone nodes n known (shapes.Over child) has not read handed row own = by_law read handed row (plan_at nodes n) _ (shape_there nodes n (shapes.Over child) known has).over.law (λ h. h) own
leaf_alone nodes n known (shapes.Zoned content table) has not read handed row own = by_law read handed row (plan_at nodes n) _ (shape_there nodes n (shapes.Zoned content table) known has).over.law (λ h. h) own
leaf_alone nodes n known shapes.Chunks has not read handed row own = by_law read handed row (plan_at nodes n) _ (shape_there nodes n shapes.Chunks known has).law (λ h. h) own
leaf_alone nodes n known (shapes.Fields has_validity) has not read handed row own = by_law read handed row (plan_at nodes n) _ (shape_there nodes n (shapes.Fields has_validity) known has).law (λ h. h) own
leaf_alone nodes n known (shapes.LookUp codes values) has not read handed row own = by_law read handed row (plan_at nodes n) _ (shape_there nodes n (shapes.LookUp codes values) known has).law (λ h. h) own
leaf_alone nodes n known (shapes.Shared child) has not read handed row own = by_law read handed row (plan_at nodes n) _ (shape_there nodes n (shapes.Shared child) known has).law (λ h. h) own
leaf_alone nodes n known (shapes.Pruned table) has not read handed row own = by_law read handed row (plan_at nodes n) _ (shape_there nodes n (shapes.Pruned table) known has).over.law (λ h. h) own
leaf_alone nodes n known shapes.Lists has not read handed row own = by_law read handed row (plan_at nodes n) _ (shape_there nodes n shapes.Lists known has).over.law (λ h. h) own
leaf_alone nodes n known shapes.RowNumbers has not read handed row own = by_law read handed row (plan_at nodes n) _ (shape_there nodes n shapes.RowNumbers known has).law (λ h. h) own

pub parts_read : (nodes : List Node) → IsGoodTable nodes → (given : Option (List Kept)) (n : ℕ) → n < length nodes → (shape : Shape) → HasShape nodes n shape → ((segment : ℕ) → shape ≡ shapes.Leaf segment → ⊥) → (start : ℕ) (bits : List Bool) → SelectsSome bits → (old new : List LeafRead) →
    Adds (λ read. PartsVisit (IsLeafRead read) nodes given bits (parts_of nodes n start (length bits))) old new → Adds (λ read. SomeVisit (IsLeafRead read) (handed_by nodes given) (plan_at nodes n) start bits) old new
parts_read nodes good given n known shape has not start bits some old new added =
    adds_as (λ read. PartsVisit (IsLeafRead read) nodes given bits (parts_of nodes n start (length bits))) (λ read. SomeVisit (IsLeafRead read) (handed_by nodes given) (plan_at nodes n) start bits) old new
    (λ read v. parts_up nodes good given n known shape has start bits some (IsLeafRead read) v)
    (λ read v. ⊎_elim (λ (own : SomeOwn (IsLeafRead read) (handed_by nodes given) (plan_at nodes n) start bits). absurd (leaf_alone nodes n known shape has not read (handed_by nodes given) (start + own.0) own.2)) (λ (p : PartsVisit (IsLeafRead read) nodes given bits (parts_of nodes n start (length bits))). p) (parts_down nodes good given n known shape has start bits (IsLeafRead read) (λ row h. h) v))
    added

pub all_rows_taken : (bits : List Bool) (from to : ℕ) → from ≡ 0 → to ≡ length bits → bits ≡ slice_range bits from to
all_rows_taken bits from to first last = sym (ap (λ (k : ℕ). slice_range bits k to) first ∙ ap (slice_range bits 0) last ∙ all_taken bits)

-- What is reached of no selected rows, and of rows one after another.
use Rattle.std.proofs.Common.{◌≡◌, ℕ, zero, suc, ◌+◌, ◌-◌, ◌≤◌, min, Bool, true, false, List, [], ◌∷◌, ◌++◌, Option, Some, None, length, take, drop, replicate, refl, sym, ap, ◌∙◌, arith, append-nil, append_assoc, length-drop, length-take, drop-drop}
use Rattle.std.specs.Prelude.{if◌then◌else◌}
use Rattle.std.proofs.lemmas.List.{drop-take, drop-replicate, length-replicate}
use Rattle.vx_plan.specs.declared.reaching.Reach.{Reach}
use Rattle.vx_plan.specs.declared.reaching.SegmentReach.{SegmentReach}
use Rattle.vx_plan.specs.Plans.{Plan, no_plan, concat_plan, eval_plan, filter_plan, pack_plan, take_plan, share_plan, list_plan, row_idx_plan, scan_plan, zoned_plan, pruning_plan, Plans, no_plans, plan, PlanValidity, all_valid, valid_as, plan_head, plans_from, field_plans, front_plans, last_plan, last_validity}
use Rattle.vx_plan.specs.Reaches.{any_row, chosen_rows, shifted, selected_of, selected_chunks, selected_fields, selected_validity}
use Rattle.vx_expr.proofs.RewrittenTypes.{or_left, or_right}

-- ---- no row is selected

pub none_in_front : (n : ℕ) (bits : List Bool) → any_row bits ≡ false → any_row (take n bits) ≡ false
none_in_front zero bits none = refl
none_in_front (suc n) [] none = refl
none_in_front (suc n) (bit ∷ bits) none =
    let p : bit ≡ false = or_left bit (any_row bits) none in
    let q : any_row (take n bits) ≡ false = none_in_front n bits (or_right bit (any_row bits) none) in
    cc

pub none_behind : (n : ℕ) (bits : List Bool) → any_row bits ≡ false → any_row (drop n bits) ≡ false
none_behind zero bits none = none
none_behind (suc n) [] none = refl
none_behind (suc n) (bit ∷ bits) none = none_behind n bits (or_right bit (any_row bits) none)

if_none : (b : Bool) (xs : List SegmentReach) → b ≡ false → (if b then xs else []) ≡ []
if_none false xs e = refl
if_none true xs e = absurd cc

mutual
  pub nothing_selected : (p : Plan) (at : Reach) (start : ℕ) (bits : List Bool) → any_row bits ≡ false → selected_of p at start bits ≡ []
  nothing_selected (no_plan head) at start bits none = refl
  nothing_selected (concat_plan head children) at start bits none = nothing_in_chunks children 0 at start bits none
  nothing_selected (eval_plan head e child) at start bits none = nothing_selected child at start bits none
  nothing_selected (filter_plan head child) at start bits none = nothing_selected child at start bits none
  nothing_selected (pack_plan head children validity) at start bits none =
      let p : selected_fields children at start bits ≡ [] = nothing_in_fields children at start bits none in
      let q : selected_validity validity at start bits ≡ [] = nothing_in_validity validity at start bits none in
      cc
  nothing_selected (take_plan head codes values) at start bits none = if_none (any_row bits) _ none
  nothing_selected (share_plan head child) at start bits none = if_none (any_row bits) _ none
  nothing_selected (list_plan head elements offsets validity) at start bits none = refl
  nothing_selected (row_idx_plan head) at start bits none = refl
  nothing_selected (scan_plan head segment coding) at start bits none = if_none (any_row bits) _ none
  nothing_selected (zoned_plan head zones content table) at start bits none = nothing_selected content at start bits none
  nothing_selected (pruning_plan head pruning table) at start bits none = if_none (any_row bits) _ none

  pub nothing_in_chunks : (ps : Plans) (before : ℕ) (at : Reach) (start : ℕ) (bits : List Bool) → any_row bits ≡ false → selected_chunks before ps at start bits ≡ []
  nothing_in_chunks no_plans before at start bits none = refl
  nothing_in_chunks (plan first rest) before at start bits none =
      let p : selected_of first (shifted at before) start (take ((plan_head first).rows - start) bits) ≡ [] = nothing_selected first (shifted at before) start (take ((plan_head first).rows - start) bits) (none_in_front ((plan_head first).rows - start) bits none) in
      let q : selected_chunks (before + (plan_head first).rows) rest at (start - (plan_head first).rows) (drop ((plan_head first).rows - start) bits) ≡ [] = nothing_in_chunks rest (before + (plan_head first).rows) at (start - (plan_head first).rows) (drop ((plan_head first).rows - start) bits) (none_behind ((plan_head first).rows - start) bits none) in
      cc

  nothing_in_fields : (ps : Plans) (at : Reach) (start : ℕ) (bits : List Bool) → any_row bits ≡ false → selected_fields ps at start bits ≡ []
  nothing_in_fields no_plans at start bits none = refl
  nothing_in_fields (plan first rest) at start bits none =
      let p : selected_of first at start bits ≡ [] = nothing_selected first at start bits none in
      let q : selected_fields rest at start bits ≡ [] = nothing_in_fields rest at start bits none in
      cc

  nothing_in_validity : (v : PlanValidity) (at : Reach) (start : ℕ) (bits : List Bool) → any_row bits ≡ false → selected_validity v at start bits ≡ []
  nothing_in_validity all_valid at start bits none = refl
  nothing_in_validity (valid_as validity) at start bits none = nothing_selected validity at start bits none

-- ---- some row is selected

if_some : (b : Bool) (xs : List SegmentReach) → b ≡ true → (if b then xs else []) ≡ xs
if_some true xs e = refl
if_some false xs e = absurd cc

pub entered : (bits : List Bool) (xs : List SegmentReach) → any_row bits ≡ true → (if any_row bits then xs else []) ≡ xs
entered bits xs some = if_some (any_row bits) xs some

-- ---- fields, then their validity

fields_apart : (ps : List Plan) (at : Reach) (start : ℕ) (bits : List Bool) → selected_fields (plans_from (front_plans ps)) at start bits ++ selected_of (last_plan ps) at start bits ≡ selected_fields (plans_from ps) at start bits
fields_apart [] at start bits = refl
fields_apart (p ∷ []) at start bits = sym (append-nil (selected_of p at start bits))
fields_apart (p ∷ q ∷ ps) at start bits =
    append_assoc (selected_of p at start bits) (selected_fields (plans_from (front_plans (q ∷ ps))) at start bits) (selected_of (last_plan (q ∷ ps)) at start bits)
    ∙ ap (λ (xs : List SegmentReach). selected_of p at start bits ++ xs) (fields_apart (q ∷ ps) at start bits)

pub fields_then_validity : (has_validity : Bool) (ps : List Plan) (at : Reach) (start : ℕ) (bits : List Bool) → selected_fields (plans_from (field_plans has_validity ps)) at start bits ++ selected_validity (last_validity has_validity ps) at start bits ≡ selected_fields (plans_from ps) at start bits
fields_then_validity false ps at start bits = append-nil (selected_fields (plans_from ps) at start bits)
fields_then_validity true ps at start bits = fields_apart ps at start bits

-- ---- rows of a mask

-- a mask has so many rows, where there is one
abbrev pub Holds : Option (List Bool) → ℕ → Type 0
Holds None count = Unit {0}
Holds (Some mask) count = count ≤ length mask

take_replicated : (m n : ℕ) → take m (replicate n true) ≡ replicate (min m n) true
take_replicated zero n = let e : min 0 n ≡ 0 = omega arith in ap (λ (k : ℕ). replicate k true) (sym e)
take_replicated (suc m) zero = let e : min (suc m) 0 ≡ 0 = omega arith in ap (λ (k : ℕ). replicate k true) (sym e)
take_replicated (suc m) (suc n) =
    let e : min (suc m) (suc n) ≡ suc (min m n) = omega arith in
    ap (λ (bits : List Bool). true ∷ bits) (take_replicated m n) ∙ ap (λ (k : ℕ). replicate k true) (sym e)

take_none : (n : ℕ) → take {A = Bool} n [] ≡ []
take_none zero = refl
take_none (suc n) = refl

taken_twice : (m n : ℕ) (bits : List Bool) → take m (take n bits) ≡ take (min m n) bits
taken_twice zero n bits = let e : min 0 n ≡ 0 = omega arith in ap (λ (k : ℕ). take k bits) (sym e)
taken_twice (suc m) zero bits = let e : min (suc m) 0 ≡ 0 = omega arith in ap (λ (k : ℕ). take k bits) (sym e)
taken_twice (suc m) (suc n) [] = sym (take_none (min (suc m) (suc n)))
taken_twice (suc m) (suc n) (bit ∷ bits) =
    let e : min (suc m) (suc n) ≡ suc (min m n) = omega arith in
    ap (λ (rest : List Bool). bit ∷ rest) (taken_twice m n bits) ∙ ap (λ (k : ℕ). take k (bit ∷ bits)) (sym e)

pub chosen_count : (mask : Option (List Bool)) (skip count : ℕ) → Holds mask (skip + count) → length (chosen_rows mask skip count) ≡ count
chosen_count None skip count holds = length-replicate count true
chosen_count (Some mask) skip count holds = omega (arith, length-take count (drop skip mask), length-drop skip mask)

pub chosen_within : (mask : Option (List Bool)) (skip count first more : ℕ) → first ≤ count → take more (drop first (chosen_rows mask skip count)) ≡ chosen_rows mask (skip + first) (min more (count - first))
chosen_within None skip count first more le =
    ap (take more) (drop-replicate first count true) ∙ take_replicated more (count - first)
chosen_within (Some mask) skip count first more le =
    let e : count ≡ first + (count - first) = omega arith in
    ap (λ (n : ℕ). take more (drop first (take n (drop skip mask)))) e
    ∙ ap (take more) (drop-take first (count - first) (drop skip mask))
    ∙ taken_twice more (count - first) (drop first (drop skip mask))
    ∙ ap (take (min more (count - first))) (drop-drop first skip mask)

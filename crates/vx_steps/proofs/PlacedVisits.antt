-- A visit of a table's plan is one of a plan of the table itself; and visits for others.
use Rattle.std.proofs.Common.{◌≡◌, ℕ, zero, suc, ◌-◌, ◌<◌, ◌⊎◌, inl, inr, Bool, true, false, List, [], ◌∷◌, None, length, map, refl, sym, subst, arith}
use Rattle.std.specs.Prelude.{nat_lt}
use Rattle.std.specs.Bool.{MatchBool}
use Rattle.std.specs.List.{All}
use Rattle.std.proofs.lemmas.List.Elements.{All-head, All-tail}
use Rattle.std.proofs.lemmas.Option.{slice_get-get_or}
use Rattle.vx_plan.specs.declared.nodes.PlanKind.{PlanKind}
use Rattle.vx_plan.specs.declared.nodes.PlanKind.TheVariants as kinds
use Rattle.vx_plan.specs.Nodes.{Node, absent}
use Rattle.vx_rows.specs.Heads.{Head}
use Rattle.vx_plan.specs.Plans.{Plan, no_plan, concat_plan, eval_plan, filter_plan, pack_plan, take_plan, share_plan, list_plan, row_idx_plan, scan_plan, zoned_plan, pruning_plan, Plans, no_plans, plan, PlanValidity, all_valid, valid_as, plan_head, head_at, plan_at, plan_gap, plan_in, plan_grown_as, plans_from, front_plans, last_plan, field_plans, last_validity}
use Rattle.vx_plan.specs.Rules.{node_at}
use Rattle.vx_plan.specs.Tables.{IsGoodTable}
use Rattle.vx_plan.proofs.Unfolding.{Known, known}
use Rattle.vx_steps.specs.Given.{Handed}
use Rattle.vx_steps.specs.Visits.{Test, Visits, VisitsIn, VisitsField, VisitsValidity}

-- a plan of the table that is so
abbrev pub InTable : List Node → Test → Test
InTable nodes P handed p row = P handed p row × ((n : ℕ) × (n < length nodes) × (p ≡ plan_at nodes n))

-- the test never sees a plan that isn't there
abbrev pub SeesNoGap : Test → Type 0
SeesNoGap P = (handed : Handed) (row : ℕ) → P handed (plan_gap 0) row → ⊥

abbrev CanPlace : List Node → Test → ℕ → Type 0
CanPlace nodes P n = (handed : Handed) (row : ℕ) → Visits P handed (plan_at nodes n) row → Visits (InTable nodes P) handed (plan_at nodes n) row

abbrev CanPlaceAll : List Node → Test → List ℕ → Type 0
CanPlaceAll nodes P [] = Unit {0}
CanPlaceAll nodes P (n ∷ ns) = CanPlace nodes P n × CanPlaceAll nodes P ns

placed_in : (P : Test) → SeesNoGap P → (nodes : List Node) (ns : List ℕ) (place : ℕ) → CanPlaceAll nodes P ns → (handed : Handed) (row : ℕ) → Visits P handed (plan_in (map (plan_at nodes) ns) place) row → Visits (InTable nodes P) handed (plan_in (map (plan_at nodes) ns) place) row
placed_in P gap nodes [] place each handed row v = absurd (gap handed row v)
placed_in P gap nodes (n ∷ ns) zero each handed row v = each.0 handed row v
placed_in P gap nodes (n ∷ ns) (suc place) each handed row v = placed_in P gap nodes ns place each.1 handed row v

pub match_mapped : (b : Bool) (A B C D : Type 0) → (A → C) → (B → D) → MatchBool b A B → MatchBool b C D
match_mapped true A B C D f g v = f v
match_mapped false A B C D f g v = g v

placed_chunk : (P : Test) (nodes : List Node) (ns : List ℕ) → CanPlaceAll nodes P ns → (handed : Handed) (row : ℕ) → VisitsIn P handed (plans_from (map (plan_at nodes) ns)) row → VisitsIn (InTable nodes P) handed (plans_from (map (plan_at nodes) ns)) row
placed_chunk P nodes [] each handed row v = v
placed_chunk P nodes (n ∷ ns) each handed row v =
    let rows : ℕ = (plan_head (plan_at nodes n)).rows in
    let rest : Plans = plans_from (map (plan_at nodes) ns) in
    match_mapped (nat_lt row rows) (Visits P handed (plan_at nodes n) row) (VisitsIn P handed rest (row - rows)) (Visits (InTable nodes P) handed (plan_at nodes n) row) (VisitsIn (InTable nodes P) handed rest (row - rows)) (each.0 handed row) (placed_chunk P nodes ns each.1 handed (row - rows)) v

placed_field : (P : Test) (nodes : List Node) (ns : List ℕ) → CanPlaceAll nodes P ns → (handed : Handed) (row : ℕ) → VisitsField P handed (plans_from (map (plan_at nodes) ns)) row → VisitsField (InTable nodes P) handed (plans_from (map (plan_at nodes) ns)) row
placed_field P nodes [] each handed row v = v
placed_field P nodes (n ∷ ns) each handed row (inl v) = inl (each.0 handed row v)
placed_field P nodes (n ∷ ns) each handed row (inr v) = inr (placed_field P nodes ns each.1 handed row v)

placed_front : (P : Test) (nodes : List Node) (ns : List ℕ) → CanPlaceAll nodes P ns → (handed : Handed) (row : ℕ) → VisitsField P handed (plans_from (front_plans (map (plan_at nodes) ns))) row → VisitsField (InTable nodes P) handed (plans_from (front_plans (map (plan_at nodes) ns))) row
placed_front P nodes [] each handed row v = v
placed_front P nodes (n ∷ []) each handed row v = v
placed_front P nodes (n ∷ m ∷ ns) each handed row (inl v) = inl (each.0 handed row v)
placed_front P nodes (n ∷ m ∷ ns) each handed row (inr v) = inr (placed_front P nodes (m ∷ ns) each.1 handed row v)

placed_last : (P : Test) → SeesNoGap P → (nodes : List Node) (ns : List ℕ) → CanPlaceAll nodes P ns → (handed : Handed) (row : ℕ) → Visits P handed (last_plan (map (plan_at nodes) ns)) row → Visits (InTable nodes P) handed (last_plan (map (plan_at nodes) ns)) row
placed_last P gap nodes [] each handed row v = absurd (gap handed row v)
placed_last P gap nodes (n ∷ []) each handed row v = each.0 handed row v
placed_last P gap nodes (n ∷ m ∷ ns) each handed row v = placed_last P gap nodes (m ∷ ns) each.1 handed row v

abbrev PackVisits : Test → Handed → Bool → List Plan → ℕ → Type 0
PackVisits P handed has_validity ps row = VisitsField P handed (plans_from (field_plans has_validity ps)) row ⊎ VisitsValidity P handed (last_validity has_validity ps) row

placed_pack : (P : Test) → SeesNoGap P → (has_validity : Bool) (nodes : List Node) (ns : List ℕ) → CanPlaceAll nodes P ns → (handed : Handed) (row : ℕ) → PackVisits P handed has_validity (map (plan_at nodes) ns) row → PackVisits (InTable nodes P) handed has_validity (map (plan_at nodes) ns) row
placed_pack P gap false nodes ns each handed row (inl v) = inl (placed_field P nodes ns each handed row v)
placed_pack P gap false nodes ns each handed row (inr none) = absurd none
placed_pack P gap true nodes ns each handed row (inl v) = inl (placed_front P nodes ns each handed row v)
placed_pack P gap true nodes ns each handed row (inr v) = inr (placed_last P gap nodes ns each handed row v)

-- the plan grown of that kind is in the table
abbrev IsGrown : List Node → PlanKind → Head → List ℕ → Type 0
IsGrown nodes kind head ns = (n : ℕ) × (n < length nodes) × (plan_grown_as head kind (map (plan_at nodes) ns) ≡ plan_at nodes n)

placed_kind : (kind : PlanKind) (P : Test) → SeesNoGap P → (nodes : List Node) (head : Head) (ns : List ℕ) → IsGrown nodes kind head ns → CanPlaceAll nodes P ns → (handed : Handed) (row : ℕ) → Visits P handed (plan_grown_as head kind (map (plan_at nodes) ns)) row → Visits (InTable nodes P) handed (plan_grown_as head kind (map (plan_at nodes) ns)) row
placed_kind kinds.Concat P gap nodes head ns is each handed row (inl v) = inl (v, is)
placed_kind kinds.Concat P gap nodes head ns is each handed row (inr v) = inr (placed_chunk P nodes ns each handed row v)
placed_kind (kinds.Eval a) P gap nodes head ns is each handed row (inl v) = inl (v, is)
placed_kind (kinds.Eval a) P gap nodes head ns is each handed row (inr v) = inr (placed_in P gap nodes ns 0 each handed row v)
placed_kind kinds.Filter P gap nodes head ns is each handed row (inl v) = inl (v, is)
placed_kind kinds.Filter P gap nodes head ns is each handed row (inr v) = inr (placed_in P gap nodes ns 0 each handed row v)
placed_kind (kinds.Pack has_validity) P gap nodes head ns is each handed row (inl v) = inl (v, is)
placed_kind (kinds.Pack has_validity) P gap nodes head ns is each handed row (inr v) = inr (placed_pack P gap has_validity nodes ns each handed row v)
placed_kind kinds.Take P gap nodes head ns is each handed row (inl v) = inl (v, is)
placed_kind kinds.Take P gap nodes head ns is each handed row (inr (inl v)) = inr (inl (placed_in P gap nodes ns 0 each handed row v))
placed_kind kinds.Take P gap nodes head ns is each handed row (inr (inr (none, (other, less, v)))) = inr (inr (none, (other, less, placed_in P gap nodes ns 1 each None other v)))
placed_kind kinds.Share P gap nodes head ns is each handed row (inl v) = inl (v, is)
placed_kind kinds.Share P gap nodes head ns is each handed row (inr (none, (other, less, v))) = inr (none, (other, less, placed_in P gap nodes ns 0 each None other v))
placed_kind (kinds.ListPack has_validity) P gap nodes head ns is each handed row v = (v, is)
placed_kind kinds.RowIdx P gap nodes head ns is each handed row v = (v, is)
placed_kind (kinds.SegmentScan segment coding) P gap nodes head ns is each handed row v = (v, is)
placed_kind (kinds.Zoned zone_len stats) P gap nodes head ns is each handed row (inl v) = inl (v, is)
placed_kind (kinds.Zoned zone_len stats) P gap nodes head ns is each handed row (inr v) = inr (placed_in P gap nodes ns 0 each handed row v)
placed_kind (kinds.LegacyStats zone_len stats) P gap nodes head ns is each handed row (inl v) = inl (v, is)
placed_kind (kinds.LegacyStats zone_len stats) P gap nodes head ns is each handed row (inr v) = inr (placed_in P gap nodes ns 0 each handed row v)
placed_kind (kinds.Pruning zone_len stats proof) P gap nodes head ns is each handed row (inl v) = inl (v, is)
placed_kind (kinds.Pruning zone_len stats proof) P gap nodes head ns is each handed row (inr (other, less, v)) = inr (other, less, placed_in P gap nodes ns 0 each handed other v)

all_placed : (P : Test) (nodes : List Node) (bound : ℕ) → ((n : ℕ) → n < bound → CanPlace nodes P n) → (ns : List ℕ) → All (λ n. n < bound) ns → CanPlaceAll nodes P ns
all_placed P nodes bound each [] below = tt
all_placed P nodes bound each (n ∷ ns) below = (each n (All-head (λ n. n < bound) n ns below), all_placed P nodes bound each ns (All-tail (λ n. n < bound) n ns below))

placed_below : (P : Test) → SeesNoGap P → (nodes : List Node) → IsGoodTable nodes → (bound n : ℕ) → n < bound → n < length nodes → CanPlace nodes P n
placed_below P gap nodes good zero n lt there handed row v = absurd (omega arith)
placed_below P gap nodes good (suc bound) n lt there handed row v =
    let node : Node = node_at nodes n in
    let k : Known nodes n node node.kind = known nodes good n node node.kind (slice_get-get_or nodes n absent there) refl in
    let each : CanPlaceAll nodes P node.children = all_placed P nodes n (λ m less. placed_below P gap nodes good bound m (omega arith) (omega arith)) node.children k.good.below in
    let F : Plan → Type 0 = λ p. Visits P handed p row in
    let G : Plan → Type 0 = λ p. Visits (InTable nodes P) handed p row in
    subst G (sym k.law) (placed_kind node.kind P gap nodes (head_at n node) node.children (n, there, sym k.law) each handed row (subst F k.law v))

pub visit_placed : (P : Test) → SeesNoGap P → (nodes : List Node) → IsGoodTable nodes → (n : ℕ) → n < length nodes → (handed : Handed) (row : ℕ) → Visits P handed (plan_at nodes n) row → Visits (InTable nodes P) handed (plan_at nodes n) row
visit_placed P gap nodes good n there handed row v = placed_below P gap nodes good (suc n) n (omega arith) there handed row v

-- ---- one visit for another

abbrev pub Implies : Test → Test → Type 0
Implies P Q = (handed : Handed) (p : Plan) (row : ℕ) → P handed p row → Q handed p row

mutual
  pub visit_mapped : (P Q : Test) → Implies P Q → (handed : Handed) (p : Plan) (row : ℕ) → Visits P handed p row → Visits Q handed p row
  visit_mapped P Q f handed (no_plan head) row v = f handed (no_plan head) row v
  visit_mapped P Q f handed (concat_plan head children) row (inl v) = inl (f handed (concat_plan head children) row v)
  visit_mapped P Q f handed (concat_plan head children) row (inr v) = inr (mapped_in P Q f handed children row v)
  visit_mapped P Q f handed (eval_plan head e child) row (inl v) = inl (f handed (eval_plan head e child) row v)
  visit_mapped P Q f handed (eval_plan head e child) row (inr v) = inr (visit_mapped P Q f handed child row v)
  visit_mapped P Q f handed (filter_plan head child) row (inl v) = inl (f handed (filter_plan head child) row v)
  visit_mapped P Q f handed (filter_plan head child) row (inr v) = inr (visit_mapped P Q f handed child row v)
  visit_mapped P Q f handed (pack_plan head children validity) row (inl v) = inl (f handed (pack_plan head children validity) row v)
  visit_mapped P Q f handed (pack_plan head children validity) row (inr (inl v)) = inr (inl (mapped_field P Q f handed children row v))
  visit_mapped P Q f handed (pack_plan head children validity) row (inr (inr v)) = inr (inr (mapped_validity P Q f handed validity row v))
  visit_mapped P Q f handed (take_plan head codes values) row (inl v) = inl (f handed (take_plan head codes values) row v)
  visit_mapped P Q f handed (take_plan head codes values) row (inr (inl v)) = inr (inl (visit_mapped P Q f handed codes row v))
  visit_mapped P Q f handed (take_plan head codes values) row (inr (inr (none, (other, less, v)))) = inr (inr (none, (other, less, visit_mapped P Q f None values other v)))
  visit_mapped P Q f handed (share_plan head child) row (inl v) = inl (f handed (share_plan head child) row v)
  visit_mapped P Q f handed (share_plan head child) row (inr (none, (other, less, v))) = inr (none, (other, less, visit_mapped P Q f None child other v))
  visit_mapped P Q f handed (list_plan head elements offsets validity) row v = f handed (list_plan head elements offsets validity) row v
  visit_mapped P Q f handed (row_idx_plan head) row v = f handed (row_idx_plan head) row v
  visit_mapped P Q f handed (scan_plan head segment coding) row v = f handed (scan_plan head segment coding) row v
  visit_mapped P Q f handed (zoned_plan head zones content table) row (inl v) = inl (f handed (zoned_plan head zones content table) row v)
  visit_mapped P Q f handed (zoned_plan head zones content table) row (inr v) = inr (visit_mapped P Q f handed content row v)
  visit_mapped P Q f handed (pruning_plan head pruning table) row (inl v) = inl (f handed (pruning_plan head pruning table) row v)
  visit_mapped P Q f handed (pruning_plan head pruning table) row (inr (other, less, v)) = inr (other, less, visit_mapped P Q f handed table other v)

  mapped_in : (P Q : Test) → Implies P Q → (handed : Handed) (ps : Plans) (row : ℕ) → VisitsIn P handed ps row → VisitsIn Q handed ps row
  mapped_in P Q f handed no_plans row v = v
  mapped_in P Q f handed (plan first rest) row v =
      match_mapped (nat_lt row (plan_head first).rows) (Visits P handed first row) (VisitsIn P handed rest (row - (plan_head first).rows)) (Visits Q handed first row) (VisitsIn Q handed rest (row - (plan_head first).rows))
      (visit_mapped P Q f handed first row) (mapped_in P Q f handed rest (row - (plan_head first).rows)) v

  mapped_field : (P Q : Test) → Implies P Q → (handed : Handed) (ps : Plans) (row : ℕ) → VisitsField P handed ps row → VisitsField Q handed ps row
  mapped_field P Q f handed no_plans row v = v
  mapped_field P Q f handed (plan first rest) row (inl v) = inl (visit_mapped P Q f handed first row v)
  mapped_field P Q f handed (plan first rest) row (inr v) = inr (mapped_field P Q f handed rest row v)

  mapped_validity : (P Q : Test) → Implies P Q → (handed : Handed) (validity : PlanValidity) (row : ℕ) → VisitsValidity P handed validity row → VisitsValidity Q handed validity row
  mapped_validity P Q f handed all_valid row v = v
  mapped_validity P Q f handed (valid_as validity) row v = visit_mapped P Q f handed validity row v

-- ---- what is visited

-- some plan is so, of some row
pub record IsSeen (P : Test) : Type 0 where
  pub handed : Handed
  pub at : Plan
  pub row : ℕ
  pub is : P handed at row

pub by_match : (b : Bool) (A B C : Type 0) → (A → C) → (B → C) → MatchBool b A B → C
by_match true A B C f g v = f v
by_match false A B C f g v = g v

mutual
  pub visit_seen : (P : Test) (handed : Handed) (p : Plan) (row : ℕ) → Visits P handed p row → IsSeen P
  visit_seen P handed (no_plan head) row v = record { handed = handed; at = no_plan head; row = row; is = v }
  visit_seen P handed (concat_plan head children) row (inl v) = record { handed = handed; at = concat_plan head children; row = row; is = v }
  visit_seen P handed (concat_plan head children) row (inr v) = seen_in P handed children row v
  visit_seen P handed (eval_plan head e child) row (inl v) = record { handed = handed; at = eval_plan head e child; row = row; is = v }
  visit_seen P handed (eval_plan head e child) row (inr v) = visit_seen P handed child row v
  visit_seen P handed (filter_plan head child) row (inl v) = record { handed = handed; at = filter_plan head child; row = row; is = v }
  visit_seen P handed (filter_plan head child) row (inr v) = visit_seen P handed child row v
  visit_seen P handed (pack_plan head children validity) row (inl v) = record { handed = handed; at = pack_plan head children validity; row = row; is = v }
  visit_seen P handed (pack_plan head children validity) row (inr (inl v)) = seen_field P handed children row v
  visit_seen P handed (pack_plan head children validity) row (inr (inr v)) = seen_validity P handed validity row v
  visit_seen P handed (take_plan head codes values) row (inl v) = record { handed = handed; at = take_plan head codes values; row = row; is = v }
  visit_seen P handed (take_plan head codes values) row (inr (inl v)) = visit_seen P handed codes row v
  visit_seen P handed (take_plan head codes values) row (inr (inr (none, (other, less, v)))) = visit_seen P None values other v
  visit_seen P handed (share_plan head child) row (inl v) = record { handed = handed; at = share_plan head child; row = row; is = v }
  visit_seen P handed (share_plan head child) row (inr (none, (other, less, v))) = visit_seen P None child other v
  visit_seen P handed (list_plan head elements offsets validity) row v = record { handed = handed; at = list_plan head elements offsets validity; row = row; is = v }
  visit_seen P handed (row_idx_plan head) row v = record { handed = handed; at = row_idx_plan head; row = row; is = v }
  visit_seen P handed (scan_plan head segment coding) row v = record { handed = handed; at = scan_plan head segment coding; row = row; is = v }
  visit_seen P handed (zoned_plan head zones content table) row (inl v) = record { handed = handed; at = zoned_plan head zones content table; row = row; is = v }
  visit_seen P handed (zoned_plan head zones content table) row (inr v) = visit_seen P handed content row v
  visit_seen P handed (pruning_plan head pruning table) row (inl v) = record { handed = handed; at = pruning_plan head pruning table; row = row; is = v }
  visit_seen P handed (pruning_plan head pruning table) row (inr (other, less, v)) = visit_seen P handed table other v

  seen_in : (P : Test) (handed : Handed) (ps : Plans) (row : ℕ) → VisitsIn P handed ps row → IsSeen P
  seen_in P handed no_plans row v = absurd v
  seen_in P handed (plan first rest) row v = by_match (nat_lt row (plan_head first).rows) (Visits P handed first row) (VisitsIn P handed rest (row - (plan_head first).rows)) (IsSeen P) (visit_seen P handed first row) (seen_in P handed rest (row - (plan_head first).rows)) v

  seen_field : (P : Test) (handed : Handed) (ps : Plans) (row : ℕ) → VisitsField P handed ps row → IsSeen P
  seen_field P handed no_plans row v = absurd v
  seen_field P handed (plan first rest) row (inl v) = visit_seen P handed first row v
  seen_field P handed (plan first rest) row (inr v) = seen_field P handed rest row v

  seen_validity : (P : Test) (handed : Handed) (validity : PlanValidity) (row : ℕ) → VisitsValidity P handed validity row → IsSeen P
  seen_validity P handed all_valid row v = absurd v
  seen_validity P handed (valid_as validity) row v = visit_seen P handed validity row v

-- a visit of a table's plan is one of a plan of the table
pub record IsPlaced (P : Test) (nodes : List Node) : Type 0 where
  pub number : ℕ
  pub there : number < length nodes
  pub handed : Handed
  pub row : ℕ
  pub is : P handed (plan_at nodes number) row

pub is_placed : (P : Test) → SeesNoGap P → (nodes : List Node) → IsGoodTable nodes → (n : ℕ) → n < length nodes → (handed : Handed) (row : ℕ) → Visits P handed (plan_at nodes n) row → IsPlaced P nodes
is_placed P gap nodes good n there handed row v =
    let one : IsSeen (InTable nodes P) = visit_seen (InTable nodes P) handed (plan_at nodes n) row (visit_placed P gap nodes good n there handed row v) in
    let F : Plan → Type 0 = λ p. P one.handed p one.row in
    record { number = one.is.1.0; there = one.is.1.1; handed = one.handed; row = one.row; is = subst F one.is.1.2 one.is.0 }

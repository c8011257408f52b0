-- Dictionaries, lists and data in zones are lowered to a plan over those of their parts.
use Rattle.std.proofs.Common.{◌≡◌, ℕ, zero, suc, ◌<◌, Bool, true, false, List, [], ◌∷◌, Option, Some, None, length, sym, ap, ◌∙◌, subst, arith}
use Rattle.std.specs.Int.{div_ceil}
use Rattle.std.proofs.lemmas.List.Elements.{All-head, All-tail}
use Rattle.vx_base.specs.ColumnCalls.{nullable_where}
use Rattle.vx_base.specs.Data.{DataType, bool_type, int_type, utf8_type, struct_type, list_type}
use Rattle.vx_base.specs.Fits.{nullability_of}
use Rattle.vx_base.specs.declared.dtypes.Nullability.{Nullability}
use Rattle.vx_expr.specs.declared.statistics.Statistic.{Statistic}
use Rattle.vx_layout.specs.Kept.{KeptFields, all}
use Rattle.vx_layout.specs.Nodes.{Node}
use Rattle.vx_layout.specs.Shape.{IsLater, ZonesCount}
use Rattle.vx_layout.specs.Sound.{IsSound}
use Rattle.vx_layout.specs.Sound.{AreZones as AreTreeZones}
use Rattle.vx_layout.specs.Trees.{Tree, dict, lists, zoned, subtree}
use Rattle.vx_plan.specs.Alike.{SameHead}
use Rattle.vx_plan.specs.Nodes.{Node as PlanNode}
use Rattle.vx_plan.specs.Plans.{Plan, PlanValidity, plan_head, zoned_plan}
use Rattle.vx_plan.specs.Rules.{given_validity, is_given, list_node, node_at, nodes_at, take_node, AreZones, KeepsRules}
use Rattle.vx_plan.specs.Tables.{AreIn, IsAdded}
use Rattle.vx_rows.specs.Zones.{zones_type, StandOver, Zones}
use Rattle.vx_rows.specs.TypeForms.{IsListOf}
use Rattle.vx_lower.specs.KeptRows.{kept_type}
use Rattle.vx_lower.specs.Lowered.{lowered, lowered_validity, kept_head, tell, with_zones}
use Rattle.vx_lower.specs.NodeParts.{tree_head, validity_of, lowered_each, zones_node, CanLower, CanLowerEach, IsListNode, IsLookUp, IsPlainNode, IsTypeAt, IsZonedNode}
use Rattle.vx_lower.specs.Numbered.{AddsPlan, AddsPlans}
use Rattle.vx_lower.specs.Sizes.{plan_size}
use Rattle.vx_lower.proofs.Appending.{added_like, joined_added, two_added, AreLike}
use Rattle.vx_lower.proofs.Heads.{lowered_head, IsHeadOf}
use Rattle.vx_lower.proofs.Made.{is_valid_as, list_adds, take_adds, validity_list, zoned_adds}
use Rattle.vx_lower.proofs.Nodes.{each_can, sound_as}
use Rattle.vx_lower.proofs.Packs.{validity_fits, validity_plans, validity_size, validity_there}
use Rattle.vx_lower.proofs.Rules.{list_can, take_can, zoned_can}
use Rattle.vx_lower.proofs.ZoneTypes.{tells_of_kept, TellsOf}
use Rattle.vx_plan.specs.Limits.{most_plans}

-- ---- dictionaries

pub look_up_can : (nodes : List Node) (n codes values : ℕ) (table : List PlanNode) → CanLower nodes n all table → IsLookUp nodes n codes values → CanLowerEach nodes n (codes ∷ values ∷ []) all table
look_up_can nodes n codes values table can over = each_can nodes n all table (dict (tree_head nodes n) (subtree nodes values) (subtree nodes codes)) (codes ∷ values ∷ []) can over (omega arith)

pub taken_can : (nodes : List Node) (n codes values : ℕ) (old mid new : List PlanNode) (c v : ℕ) → CanLower nodes n all old → IsLookUp nodes n codes values → AddsPlan old mid (lowered (subtree nodes codes) all) c → AddsPlan mid new (lowered (subtree nodes values) all) v → KeepsRules (take_node new c v) (nodes_at new (c ∷ v ∷ []))
taken_can nodes n codes values old mid new c v can over of_codes of_values =
    let p : Plan = lowered (subtree nodes codes) all in
    let q : Plan = lowered (subtree nodes values) all in
    let sound : IsSound (dict (tree_head nodes n) (subtree nodes values) (subtree nodes codes)) = sound_as nodes n (dict (tree_head nodes n) (subtree nodes values) (subtree nodes codes)) (codes ∷ values ∷ []) can.tree can.known over in
    take_can new c v p q (added_like old new (p ∷ q ∷ []) (c ∷ v ∷ []) (two_added old mid new p q c v of_codes of_values))
    (rw (lowered_head (subtree nodes codes) all sound.1).dtype sound.2.unsigned)

pub taken_adds : (nodes : List Node) (n codes values : ℕ) (old mid new last : List PlanNode) (c v k : ℕ) → CanLower nodes n all old → IsLookUp nodes n codes values → AddsPlan old mid (lowered (subtree nodes codes) all) c → AddsPlan mid new (lowered (subtree nodes values) all) v → IsAdded new last (take_node new c v) k → AddsPlan old last (lowered (subtree nodes n) all) k
taken_adds nodes n codes values old mid new last c v k can over of_codes of_values added =
    let p : Plan = lowered (subtree nodes codes) all in
    let q : Plan = lowered (subtree nodes values) all in
    let sound : IsSound (dict (tree_head nodes n) (subtree nodes values) (subtree nodes codes)) = sound_as nodes n (dict (tree_head nodes n) (subtree nodes values) (subtree nodes codes)) (codes ∷ values ∷ []) can.tree can.known over in
    let hp : IsHeadOf all (tree_head nodes codes) p = lowered_head (subtree nodes codes) all sound.1 in
    let hq : IsHeadOf all (tree_head nodes values) q = lowered_head (subtree nodes values) all sound.0 in
    let t : (tree_head nodes n).dtype ≡ nullable_where (nullability_of (plan_head p).dtype) (plan_head q).dtype = sound.2.dtype ∙ (λ i. nullable_where (nullability_of (sym hp.dtype i)) (sym hq.dtype i)) in
    subst (λ (t : Tree). AddsPlan old last (lowered t all) k) (sym over.tree)
    (take_adds old new last p q c v k (tree_head nodes n) (two_added old mid new p q c v of_codes of_values) added t (hp.rows ∙ sound.2.rows))

-- ---- lists

pub list_parts_can : (nodes : List Node) (n elements offsets : ℕ) (validity : Option ℕ) (table : List PlanNode) → CanLower nodes n all table → IsListNode nodes n elements offsets validity → CanLowerEach nodes n (elements ∷ offsets ∷ given_validity validity) all table
list_parts_can nodes n elements offsets validity table can over =
    each_can nodes n all table (lists (tree_head nodes n) (subtree nodes elements) (subtree nodes offsets) (validity_of nodes validity)) (elements ∷ offsets ∷ given_validity validity) can over (omega (arith, validity_size nodes validity))

-- what is known of a list whose parts are lowered
record HasListParts (nodes : List Node) (n elements offsets : ℕ) (validity : Option ℕ) (old new : List PlanNode) (e o : ℕ) (w : Option ℕ) : Type 0 where
  adds : AddsPlans old new (lowered (subtree nodes elements) all ∷ lowered (subtree nodes offsets) all ∷ validity_list (lowered_validity (validity_of nodes validity))) (e ∷ o ∷ given_validity w)
  given : is_given w ≡ is_valid_as (lowered_validity (validity_of nodes validity))
  sound : IsSound (lists (tree_head nodes n) (subtree nodes elements) (subtree nodes offsets) (validity_of nodes validity))

has_list_parts : (nodes : List Node) (n elements offsets : ℕ) (validity : Option ℕ) (old first mid new : List PlanNode) (e o : ℕ) (w : Option ℕ) → CanLower nodes n all old → IsListNode nodes n elements offsets validity → AddsPlan old first (lowered (subtree nodes elements) all) e → AddsPlan first mid (lowered (subtree nodes offsets) all) o → AddsPlans mid new (lowered_each nodes all (given_validity validity)) (given_validity w) → is_given w ≡ is_given validity → HasListParts nodes n elements offsets validity old new e o w
has_list_parts nodes n elements offsets validity old first mid new e o w can over of_elements of_offsets of_validity given =
    let p : Plan = lowered (subtree nodes elements) all in
    let q : Plan = lowered (subtree nodes offsets) all in
    record {
      adds = joined_added old mid new (p ∷ q ∷ []) (validity_list (lowered_validity (validity_of nodes validity))) (e ∷ o ∷ []) (given_validity w) (two_added old first mid p q e o of_elements of_offsets)
          (subst (λ (ps : List Plan). AddsPlans mid new ps (given_validity w)) (sym (validity_plans nodes validity)) of_validity);
      given = given ∙ sym (validity_there nodes validity);
      sound = sound_as nodes n (lists (tree_head nodes n) (subtree nodes elements) (subtree nodes offsets) (validity_of nodes validity)) (elements ∷ offsets ∷ given_validity validity) can.tree can.known over;
    }

pub listed_known : (nodes : List Node) (n elements offsets : ℕ) (validity : Option ℕ) (old first mid new : List PlanNode) (e o : ℕ) (w : Option ℕ) → CanLower nodes n all old → IsListNode nodes n elements offsets validity → AddsPlan old first (lowered (subtree nodes elements) all) e → AddsPlan first mid (lowered (subtree nodes offsets) all) o → AddsPlans mid new (lowered_each nodes all (given_validity validity)) (given_validity w) → is_given w ≡ is_given validity → AreIn new (e ∷ o ∷ given_validity w)
listed_known nodes n elements offsets validity old first mid new e o w can over of_elements of_offsets of_validity given = (has_list_parts nodes n elements offsets validity old first mid new e o w can over of_elements of_offsets of_validity given).adds.known

pub listed_can : (nodes : List Node) (n elements offsets : ℕ) (validity : Option ℕ) (old first mid new : List PlanNode) (e o : ℕ) (w : Option ℕ) (k : Nullability) (rows : ℕ) → CanLower nodes n all old → IsListNode nodes n elements offsets validity → AddsPlan old first (lowered (subtree nodes elements) all) e → AddsPlan first mid (lowered (subtree nodes offsets) all) o → AddsPlans mid new (lowered_each nodes all (given_validity validity)) (given_validity w) → is_given w ≡ is_given validity → k ≡ nullability_of (tree_head nodes n).dtype → rows ≡ (tree_head nodes n).rows → KeepsRules (list_node new k rows e o w) (nodes_at new (e ∷ o ∷ given_validity w))
listed_can nodes n elements offsets validity old first mid new e o w k rows can over of_elements of_offsets of_validity given nulls count =
    let has : HasListParts nodes n elements offsets validity old new e o w = has_list_parts nodes n elements offsets validity old first mid new e o w can over of_elements of_offsets of_validity given in
    let p : Plan = lowered (subtree nodes elements) all in
    let q : Plan = lowered (subtree nodes offsets) all in
    let hq : IsHeadOf all (tree_head nodes offsets) q = lowered_head (subtree nodes offsets) all has.sound.1 in
    let v : PlanValidity = lowered_validity (validity_of nodes validity) in
    let here : KeepsRules (list_node new (nullability_of (tree_head nodes n).dtype) (tree_head nodes n).rows e o w) (nodes_at new (e ∷ o ∷ given_validity w)) = list_can new (nullability_of (tree_head nodes n).dtype) (tree_head nodes n).rows e o w p q v
    (added_like old new (p ∷ q ∷ validity_list v) (e ∷ o ∷ given_validity w) has.adds) has.given (rw hq.dtype has.sound.2.offsets) (hq.rows ∙ has.sound.2.rows)
    (validity_fits nodes (nullability_of (tree_head nodes n).dtype) (tree_head nodes n).rows validity has.sound.3) in
    subst (λ (k : Nullability). KeepsRules (list_node new k rows e o w) (nodes_at new (e ∷ o ∷ given_validity w))) (sym nulls)
    (subst (λ (rows : ℕ). KeepsRules (list_node new (nullability_of (tree_head nodes n).dtype) rows e o w) (nodes_at new (e ∷ o ∷ given_validity w))) (sym count) here)

list_type_is : (t element : DataType) → IsListOf t element → t ≡ list_type element (nullability_of t)
list_type_is (list_type s n) element is = ap (λ (e : DataType). list_type e n) (sym is)
list_type_is (bool_type n) element is = absurd is
list_type_is (int_type kind n) element is = absurd is
list_type_is (utf8_type n) element is = absurd is
list_type_is (struct_type ms n) element is = absurd is

pub listed_adds : (nodes : List Node) (n elements offsets : ℕ) (validity : Option ℕ) (old first mid new last : List PlanNode) (e o : ℕ) (w : Option ℕ) (k : Nullability) (rows i : ℕ) → CanLower nodes n all old → IsListNode nodes n elements offsets validity → AddsPlan old first (lowered (subtree nodes elements) all) e → AddsPlan first mid (lowered (subtree nodes offsets) all) o → AddsPlans mid new (lowered_each nodes all (given_validity validity)) (given_validity w) → is_given w ≡ is_given validity → k ≡ nullability_of (tree_head nodes n).dtype → rows ≡ (tree_head nodes n).rows → IsAdded new last (list_node new k rows e o w) i → AddsPlan old last (lowered (subtree nodes n) all) i
listed_adds nodes n elements offsets validity old first mid new last e o w k rows i can over of_elements of_offsets of_validity given nulls count added =
    let has : HasListParts nodes n elements offsets validity old new e o w = has_list_parts nodes n elements offsets validity old first mid new e o w can over of_elements of_offsets of_validity given in
    let p : Plan = lowered (subtree nodes elements) all in
    let q : Plan = lowered (subtree nodes offsets) all in
    let hp : IsHeadOf all (tree_head nodes elements) p = lowered_head (subtree nodes elements) all has.sound.0 in
    let t : (tree_head nodes n).dtype ≡ list_type (plan_head p).dtype k = list_type_is (tree_head nodes n).dtype (tree_head nodes elements).dtype has.sound.2.dtype ∙ (λ j. list_type (sym hp.dtype j) (sym nulls j)) in
    subst (λ (t : Tree). AddsPlan old last (lowered t all) i) (sym over.tree)
    (list_adds old new last p q (lowered_validity (validity_of nodes validity)) e o w k rows i (tree_head nodes n) has.adds has.given added t (sym count))

-- ---- zones

zoned_plan_is : (nodes : List Node) (n : ℕ) (zones : Zones) (content table : ℕ) (kept : KeptFields) → IsZonedNode nodes n true zones content table → lowered (subtree nodes n) kept ≡ zoned_plan (kept_head kept (tree_head nodes n)) zones (lowered (subtree nodes content) kept) (lowered (subtree nodes table) all)
zoned_plan_is nodes n zones content table kept is =
    ap (λ (t : Tree). lowered t kept) is.over.tree ∙ ap (λ (b : Bool). with_zones b (kept_head kept (tree_head nodes n)) zones (lowered (subtree nodes content) kept) (lowered (subtree nodes table) all)) is.tells_is

plain_plan_is : (nodes : List Node) (n content : ℕ) (kept : KeptFields) → IsPlainNode nodes n content → lowered (subtree nodes n) kept ≡ lowered (subtree nodes content) kept
plain_plan_is nodes n content kept is =
    ap (λ (t : Tree). lowered t kept) is.is.over.tree ∙ ap (λ (b : Bool). with_zones b (kept_head kept (tree_head nodes n)) is.zones (lowered (subtree nodes content) kept) (lowered (subtree nodes is.table) all)) is.is.tells_is

-- what is known of data and its zones
record HasZones (nodes : List Node) (n : ℕ) (zones : Zones) (content table : ℕ) : Type 0 where
  content_later : (n < content) × (content < length nodes)
  table_later : (n < table) × (table < length nodes)
  sound : IsSound (zoned (tree_head nodes n) zones (subtree nodes content) (subtree nodes table))

has_zones : (nodes : List Node) (n : ℕ) (tells : Bool) (zones : Zones) (content table : ℕ) (kept : KeptFields) (plans : List PlanNode) → CanLower nodes n kept plans → IsZonedNode nodes n tells zones content table → HasZones nodes n zones content table
has_zones nodes n tells zones content table kept plans can is =
    let rest = All-tail (IsLater nodes n) content (table ∷ []) is.over.later in
    record {
      content_later = All-head (IsLater nodes n) content (table ∷ []) is.over.later;
      table_later = All-head (IsLater nodes n) table [] rest;
      sound = sound_as nodes n (zoned (tree_head nodes n) zones (subtree nodes content) (subtree nodes table)) (content ∷ table ∷ []) can.tree can.known is.over;
    }

pub zones_later : (nodes : List Node) (n : ℕ) (tells : Bool) (zones : Zones) (content table : ℕ) (kept : KeptFields) (plans : List PlanNode) → CanLower nodes n kept plans → IsZonedNode nodes n tells zones content table → (n < content) × (content < length nodes) × (n < table) × (table < length nodes)
zones_later nodes n tells zones content table kept plans can is =
    let has : HasZones nodes n zones content table = has_zones nodes n tells zones content table kept plans can is in
    (has.content_later.0, has.content_later.1, has.table_later.0, has.table_later.1)

-- the data has the dtype of the node
pub content_type : (nodes : List Node) (n : ℕ) (tells : Bool) (zones : Zones) (content table : ℕ) (kept : KeptFields) (plans : List PlanNode) → CanLower nodes n kept plans → IsZonedNode nodes n tells zones content table → (tree_head nodes content).dtype ≡ (tree_head nodes n).dtype
content_type nodes n tells zones content table kept plans can is = (has_zones nodes n tells zones content table kept plans can is).sound.1.dtype

pub given_type : (nodes : List Node) (n content : ℕ) (given : Option DataType) → (tree_head nodes content).dtype ≡ (tree_head nodes n).dtype → IsTypeAt nodes n given → IsTypeAt nodes content given
given_type nodes n content None same is = tt
given_type nodes n content (Some t) same is = is ∙ sym same

pub content_can : (nodes : List Node) (n : ℕ) (zones : Zones) (content table : ℕ) (kept : KeptFields) (plans : List PlanNode) → CanLower nodes n kept plans → IsZonedNode nodes n true zones content table → CanLower nodes content kept plans
content_can nodes n zones content table kept plans can is =
    let size = ap plan_size (zoned_plan_is nodes n zones content table kept is) in
    record { tree = can.tree; known = (has_zones nodes n true zones content table kept plans can is).content_later.1; room = omega (arith, can.room, size); good = can.good }

pub zone_table_can : (nodes : List Node) (n : ℕ) (zones : Zones) (content table : ℕ) (kept : KeptFields) (plans mid : List PlanNode) (c : ℕ) → CanLower nodes n kept plans → IsZonedNode nodes n true zones content table → AddsPlan plans mid (lowered (subtree nodes content) kept) c → CanLower nodes table all mid
zone_table_can nodes n zones content table kept plans mid c can is adds =
    let size = ap plan_size (zoned_plan_is nodes n zones content table kept is) in
    record { tree = can.tree; known = (has_zones nodes n true zones content table kept plans can is).table_later.1; room = omega (arith, can.room, adds.count, size); good = adds.good }

pub zoned_room : (nodes : List Node) (n : ℕ) (zones : Zones) (content table : ℕ) (kept : KeptFields) (plans mid new : List PlanNode) (c z : ℕ) → CanLower nodes n kept plans → IsZonedNode nodes n true zones content table → AddsPlan plans mid (lowered (subtree nodes content) kept) c → AddsPlan mid new (lowered (subtree nodes table) all) z → length new < most_plans
zoned_room nodes n zones content table kept plans mid new c z can is adds then =
    let size = ap plan_size (zoned_plan_is nodes n zones content table kept is) in
    omega (arith, can.room, adds.count, then.count, size)

some_length : (zone_len : ℕ) (stats : List Statistic) → tell zone_len stats ≡ true → 0 < zone_len
some_length zero stats e = absurd cc
some_length (suc n) stats e = omega arith

zone_count : (zone_len rows count : ℕ) → 0 < zone_len → ZonesCount zone_len rows count → count ≡ div_ceil rows zone_len
zone_count zero rows count some is = absurd (omega arith)
zone_count (suc n) rows count some is = is

-- the zones tell of the data's plan
zones_fit : (nodes : List Node) (n : ℕ) (zones : Zones) (content table : ℕ) (kept : KeptFields) (plans mid new : List PlanNode) (c z : ℕ) → CanLower nodes n kept plans → IsZonedNode nodes n true zones content table → AddsPlan plans mid (lowered (subtree nodes content) kept) c → AddsPlan mid new (lowered (subtree nodes table) all) z → AreZones zones.zone_len zones.statistics (node_at new c).dtype (node_at new c).rows (node_at new z)
zones_fit nodes n zones content table kept plans mid new c z can is adds then =
    let has : HasZones nodes n zones content table = has_zones nodes n true zones content table kept plans can is in
    let p : Plan = lowered (subtree nodes content) kept in
    let q : Plan = lowered (subtree nodes table) all in
    let hp : IsHeadOf kept (tree_head nodes content) p = lowered_head (subtree nodes content) kept has.sound.0 in
    let hq : IsHeadOf all (tree_head nodes table) q = lowered_head (subtree nodes table) all has.sound.2 in
    let like : AreLike (nodes_at new (c ∷ z ∷ [])) (p ∷ q ∷ []) = added_like plans new (p ∷ q ∷ []) (c ∷ z ∷ []) (two_added plans mid new p q c z adds then) in
    let told : AreTreeZones zones (tree_head nodes n) (tree_head nodes table) = has.sound.3 in
    let tells : TellsOf (tree_head nodes n).dtype (kept_type kept (tree_head nodes n).dtype) zones.statistics = tells_of_kept kept (tree_head nodes n).dtype zones.statistics told.stand in
    let t : (node_at new c).dtype ≡ kept_type kept (tree_head nodes n).dtype = like.0.dtype ∙ hp.dtype ∙ ap (kept_type kept) has.sound.1.dtype in
    let rows : (node_at new c).rows ≡ (tree_head nodes n).rows = like.0.rows ∙ hp.rows ∙ has.sound.1.rows in
    let some : 0 < zones.zone_len = some_length zones.zone_len zones.statistics is.tells_is in
    record {
      some_rows = some;
      stand = subst (λ (s : DataType). StandOver s zones.statistics) (sym t) tells.stand;
      dtype = like.1.0.dtype ∙ hq.dtype ∙ told.dtype ∙ tells.same ∙ ap (λ (s : DataType). zones_type s zones.statistics) (sym t);
      count = like.1.0.rows ∙ hq.rows ∙ zone_count zones.zone_len (tree_head nodes n).rows (tree_head nodes table).rows some told.rows ∙ ap (λ (rows : ℕ). div_ceil rows zones.zone_len) (sym rows);
    }

pub zoned_known : (nodes : List Node) (n : ℕ) (zones : Zones) (content table : ℕ) (kept : KeptFields) (plans mid new : List PlanNode) (c z : ℕ) → CanLower nodes n kept plans → IsZonedNode nodes n true zones content table → AddsPlan plans mid (lowered (subtree nodes content) kept) c → AddsPlan mid new (lowered (subtree nodes table) all) z → AreIn new (c ∷ z ∷ [])
zoned_known nodes n zones content table kept plans mid new c z can is adds then = (two_added plans mid new (lowered (subtree nodes content) kept) (lowered (subtree nodes table) all) c z adds then).known

pub zoned_keeps : (nodes : List Node) (n : ℕ) (zones : Zones) (content table : ℕ) (kept : KeptFields) (plans mid new : List PlanNode) (c z : ℕ) → CanLower nodes n kept plans → IsZonedNode nodes n true zones content table → AddsPlan plans mid (lowered (subtree nodes content) kept) c → AddsPlan mid new (lowered (subtree nodes table) all) z → KeepsRules (zones_node zones.is_legacy new c z zones.zone_len zones.statistics) (nodes_at new (c ∷ z ∷ []))
zoned_keeps nodes n zones content table kept plans mid new c z can is adds then =
    zoned_can new zones.is_legacy zones.zone_len zones.statistics c z (zones_fit nodes n zones content table kept plans mid new c z can is adds then)

pub told_adds : (nodes : List Node) (n : ℕ) (zones : Zones) (content table : ℕ) (kept : KeptFields) (plans mid new last : List PlanNode) (c z k : ℕ) → CanLower nodes n kept plans → IsZonedNode nodes n true zones content table → AddsPlan plans mid (lowered (subtree nodes content) kept) c → AddsPlan mid new (lowered (subtree nodes table) all) z → IsAdded new last (zones_node zones.is_legacy new c z zones.zone_len zones.statistics) k → AddsPlan plans last (lowered (subtree nodes n) kept) k
told_adds nodes n zones content table kept plans mid new last c z k can is adds then added =
    let has : HasZones nodes n zones content table = has_zones nodes n true zones content table kept plans can is in
    let p : Plan = lowered (subtree nodes content) kept in
    let q : Plan = lowered (subtree nodes table) all in
    let hp : IsHeadOf kept (tree_head nodes content) p = lowered_head (subtree nodes content) kept has.sound.0 in
    let same : SameHead (plan_head p) (kept_head kept (tree_head nodes n)) = record { dtype = hp.dtype ∙ ap (kept_type kept) has.sound.1.dtype; rows = hp.rows ∙ has.sound.1.rows } in
    subst (λ (p : Plan). AddsPlan plans last p k) (sym (zoned_plan_is nodes n zones content table kept is))
    (zoned_adds plans new last p q zones.is_legacy zones.zone_len zones.statistics c z k (kept_head kept (tree_head nodes n)) (two_added plans mid new p q c z adds then) added same)

-- ---- zones that tell nothing

pub plain_can : (nodes : List Node) (n content : ℕ) (kept : KeptFields) (table : List PlanNode) → CanLower nodes n kept table → IsPlainNode nodes n content → CanLower nodes content kept table
plain_can nodes n content kept table can is =
    let later = zones_later nodes n false is.zones content is.table kept table can is.is in
    record { tree = can.tree; known = later.1; room = omega (arith, can.room, ap plan_size (plain_plan_is nodes n content kept is)); good = can.good }

pub plain_later : (nodes : List Node) (n content : ℕ) (kept : KeptFields) (table : List PlanNode) → CanLower nodes n kept table → IsPlainNode nodes n content → (n < content) × (content < length nodes)
plain_later nodes n content kept table can is = let later = zones_later nodes n false is.zones content is.table kept table can is.is in (later.0, later.1)

pub plain_type : (nodes : List Node) (n content : ℕ) (kept : KeptFields) (table : List PlanNode) → CanLower nodes n kept table → IsPlainNode nodes n content → (tree_head nodes content).dtype ≡ (tree_head nodes n).dtype
plain_type nodes n content kept table can is = content_type nodes n false is.zones content is.table kept table can is.is

pub plain_adds : (nodes : List Node) (n content : ℕ) (kept : KeptFields) (old new : List PlanNode) (k : ℕ) → IsPlainNode nodes n content → AddsPlan old new (lowered (subtree nodes content) kept) k → AddsPlan old new (lowered (subtree nodes n) kept) k
plain_adds nodes n content kept old new k is adds = subst (λ (p : Plan). AddsPlan old new p k) (sym (plain_plan_is nodes n content kept is)) adds

-- Plans of one kind.
use Rattle.std.specs.Prelude.{ℕ, ◌-◌, codes, Bool, false, true, List, [], length, Option, Some, None, IsSomeAnd}
use Rattle.std.specs.List.{slice_get}
use Rattle.vx_base.specs.declared.codings.Coding.{Coding}
use Rattle.vx_base.specs.declared.codings.Coding.TheVariants.{Plain}
use Rattle.vx_expr.specs.declared.statistics.Statistic.{Statistic}
use Rattle.vx_expr.specs.Bound.{Bound}
use Rattle.vx_plan.specs.declared.kinds.PlanId.{PlanId}
use Rattle.vx_plan.specs.declared.kinds.PlanId.TheVariants as ids
use Rattle.vx_plan.specs.declared.nodes.PlanKind.{PlanKind}
use Rattle.vx_plan.specs.declared.nodes.PlanKind.TheVariants as kinds
use Rattle.vx_plan.specs.Nodes.{Node}

abbrev pub id_of : PlanKind → PlanId
id_of kinds.Concat = ids.Concat
id_of (kinds.Eval a) = ids.Eval
id_of kinds.Filter = ids.Filter
id_of (kinds.Pack has_validity) = ids.Pack
id_of kinds.Take = ids.Take
id_of kinds.Share = ids.Share
id_of (kinds.ListPack has_validity) = ids.ListPack
id_of kinds.RowIdx = ids.RowIdx
id_of (kinds.SegmentScan segment coding) = ids.SegmentScan
id_of (kinds.Zoned zone_len stats) = ids.Zoned
id_of (kinds.LegacyStats zone_len stats) = ids.LegacyStats
id_of (kinds.Pruning zone_len stats proof) = ids.Zoned

-- the name of a kind
abbrev pub id_text : PlanId → List ℕ
id_text ids.Concat = codes "vortex.plan.concat"
id_text ids.Eval = codes "vortex.plan.eval"
id_text ids.Filter = codes "vortex.plan.filter"
id_text ids.Pack = codes "vortex.plan.pack"
id_text ids.Take = codes "vortex.plan.take"
id_text ids.Share = codes "vortex.plan.share"
id_text ids.ListPack = codes "vortex.plan.list_pack"
id_text ids.RowIdx = codes "vortex.plan.row_idx"
id_text ids.SegmentScan = codes "vortex.plan.segment_scan"
id_text ids.Zoned = codes "vortex.plan.zoned"
id_text ids.LegacyStats = codes "vortex.plan.legacy_stats"

abbrev pub IsConcat : PlanKind → Type 0
IsConcat kinds.Concat = Unit {0}
IsConcat kind = ⊥

abbrev pub IsEval : PlanKind → Type 0
IsEval (kinds.Eval a) = Unit {0}
IsEval kind = ⊥

abbrev pub IsFilter : PlanKind → Type 0
IsFilter kinds.Filter = Unit {0}
IsFilter kind = ⊥

abbrev pub IsPack : PlanKind → Type 0
IsPack (kinds.Pack has_validity) = Unit {0}
IsPack kind = ⊥

abbrev pub IsTake : PlanKind → Type 0
IsTake kinds.Take = Unit {0}
IsTake kind = ⊥

abbrev pub IsShare : PlanKind → Type 0
IsShare kinds.Share = Unit {0}
IsShare kind = ⊥

abbrev pub IsListPack : PlanKind → Type 0
IsListPack (kinds.ListPack has_validity) = Unit {0}
IsListPack kind = ⊥

abbrev pub IsRowIdx : PlanKind → Type 0
IsRowIdx kinds.RowIdx = Unit {0}
IsRowIdx kind = ⊥

abbrev pub IsSegmentScan : PlanKind → Type 0
IsSegmentScan (kinds.SegmentScan segment coding) = Unit {0}
IsSegmentScan kind = ⊥

-- a plan of the rows of data that stands in zones
abbrev pub IsOverData : PlanKind → Type 0
IsOverData (kinds.Zoned zone_len stats) = Unit {0}
IsOverData kind = ⊥

-- one that tells of each row whether its zone is pruned
abbrev pub IsPruning : PlanKind → Type 0
IsPruning (kinds.Pruning zone_len stats proof) = Unit {0}
IsPruning kind = ⊥

abbrev pub IsZoned : PlanKind → Type 0
IsZoned (kinds.Zoned zone_len stats) = Unit {0}
IsZoned (kinds.Pruning zone_len stats proof) = Unit {0}
IsZoned kind = ⊥

abbrev pub IsLegacyStats : PlanKind → Type 0
IsLegacyStats (kinds.LegacyStats zone_len stats) = Unit {0}
IsLegacyStats kind = ⊥

-- how the segment of a scan is coded; another kind has none, and is as a plain one
abbrev pub coding_of : PlanKind → Coding
coding_of (kinds.SegmentScan segment coding) = coding
coding_of kind = Plain

-- how many rows a zone has, and what is told of each
abbrev pub zone_len_of : PlanKind → ℕ
zone_len_of (kinds.Zoned zone_len stats) = zone_len
zone_len_of (kinds.LegacyStats zone_len stats) = zone_len
zone_len_of (kinds.Pruning zone_len stats proof) = zone_len
zone_len_of kind = 0

abbrev pub stats_of : PlanKind → List Statistic
stats_of (kinds.Zoned zone_len stats) = stats
stats_of (kinds.LegacyStats zone_len stats) = stats
stats_of (kinds.Pruning zone_len stats proof) = stats
stats_of kind = []

-- the predicate by which a pruning plan prunes; any other has none
abbrev pub proof_of : PlanKind → Option Bound
proof_of (kinds.Pruning zone_len stats proof) = Some proof
proof_of kind = None

-- at which place among its children a plan over zones has them: they are the only child of a pruning plan
abbrev pub zones_place : PlanKind → ℕ
zones_place (kinds.Pruning zone_len stats proof) = 0
zones_place kind = 1

-- whether a validity was given
abbrev pub has_validity_of : PlanKind → Bool
has_validity_of (kinds.Pack has_validity) = has_validity
has_validity_of (kinds.ListPack has_validity) = has_validity
has_validity_of kind = false

-- the plan of the validity, which is the last child
abbrev pub validity_among : Bool → List ℕ → Option ℕ
validity_among false children = None
validity_among true children = slice_get children (length children - 1)

abbrev pub validity_of : Node → Option ℕ
validity_of node = validity_among (has_validity_of node.kind) node.children

-- the plan of the number is of a kind
abbrev pub HasKind : (PlanKind → Type 0) → List Node → ℕ → Type 0
HasKind Is nodes n = IsSomeAnd (slice_get nodes n) (λ node. Is node.kind)

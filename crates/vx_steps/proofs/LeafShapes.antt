-- A leaf that a row of a table's plan reads is a scan of a segment in the table.
use Rattle.std.proofs.Common.{◌≡◌, ℕ, ◌<◌, inl, inr, List, Some, None, length, map, refl, sym, ap, ◌∙◌, subst}
use Rattle.std.specs.List.{slice_get}
use Rattle.std.proofs.lemmas.Option.{slice_get-get_or}
use Rattle.vx_base.specs.declared.codings.Coding.{Coding}
use Rattle.vx_rows.specs.Heads.{Head}
use Rattle.vx_plan.specs.declared.nodes.PlanKind.{PlanKind}
use Rattle.vx_plan.specs.declared.nodes.PlanKind.TheVariants as kinds
use Rattle.vx_plan.specs.declared.shapes.Shape.TheVariants as shapes
use Rattle.vx_plan.specs.Nodes.{Node, absent}
use Rattle.vx_plan.specs.Plans.{Plan, no_plan, concat_plan, eval_plan, filter_plan, pack_plan, take_plan, share_plan, list_plan, row_idx_plan, scan_plan, zoned_plan, pruning_plan, plan_head, plan_at, plan_gap, plan_grown_as, head_at}
use Rattle.vx_plan.specs.Rules.{node_at}
use Rattle.vx_plan.specs.Shapes.{HasShape}
use Rattle.vx_plan.specs.Tables.{IsGoodTable}
use Rattle.vx_plan.proofs.Adding.{head_in_table}
use Rattle.vx_plan.proofs.Shaping.{leaf_shape}
use Rattle.vx_plan.proofs.Unfolding.{Known, known}
use Rattle.vx_steps.specs.declared.leaf_reads.LeafRead.{LeafRead}
use Rattle.vx_steps.specs.Given.{Handed}
use Rattle.vx_steps.specs.Held.{AreTyped}
use Rattle.vx_steps.specs.Kept.{kept_at}
use Rattle.vx_steps.specs.KeptData.{Kept}
use Rattle.vx_steps.specs.Leavings.{IsLeafOf}
use Rattle.vx_steps.specs.Offers.{IsForLeaf, Keeps}
use Rattle.vx_steps.specs.Visits.{Visits, IsLeafRead}
use Rattle.vx_steps.proofs.Standing.{stands_of_table, visit_stands, IsOfTable, Tells}
use Rattle.vx_steps.proofs.Fitting.{kept_first}
use Rattle.vx_base.specs.Columns.{ColumnData}

-- ---- the plan of a leaf's number

-- the plan scans the segment under that number
abbrev IsScanOf : LeafRead → Plan → Type 0
IsScanOf read (scan_plan head segment coding) = (head.number ≡ read.leaf) × (segment ≡ read.segment)
IsScanOf read p = ⊥

-- the plan scans some segment under that number
abbrev IsScan : ℕ → Plan → Type 0
IsScan leaf (scan_plan head segment coding) = head.number ≡ leaf
IsScan leaf p = ⊥

tells_read : (read : LeafRead) → Tells (IsLeafRead read) (IsScanOf read)
tells_read read handed (no_plan head) row v = v
tells_read read handed (concat_plan head children) row v = v
tells_read read handed (eval_plan head e child) row v = v
tells_read read handed (filter_plan head child) row v = v
tells_read read handed (pack_plan head children validity) row v = v
tells_read read handed (take_plan head codes values) row v = v
tells_read read handed (share_plan head child) row v = v
tells_read read handed (list_plan head elements offsets validity) row v = v
tells_read read handed (row_idx_plan head) row v = v
tells_read read handed (scan_plan head segment coding) row v = v
tells_read read handed (zoned_plan head zones content table) row v = v
tells_read read handed (pruning_plan head pruning table) row v = v

tells_leaf : (leaf : ℕ) → Tells (IsLeafOf leaf) (IsScan leaf)
tells_leaf leaf handed (no_plan head) row v = v
tells_leaf leaf handed (concat_plan head children) row v = v
tells_leaf leaf handed (eval_plan head e child) row v = v
tells_leaf leaf handed (filter_plan head child) row v = v
tells_leaf leaf handed (pack_plan head children validity) row v = v
tells_leaf leaf handed (take_plan head codes values) row v = v
tells_leaf leaf handed (share_plan head child) row v = v
tells_leaf leaf handed (list_plan head elements offsets validity) row v = v
tells_leaf leaf handed (row_idx_plan head) row v = v
tells_leaf leaf handed (scan_plan head segment coding) row v = v
tells_leaf leaf handed (zoned_plan head zones content table) row v = v
tells_leaf leaf handed (pruning_plan head pruning table) row v = v

scan_of : (read : LeafRead) (p : Plan) → IsScanOf read p → IsScan read.leaf p
scan_of read (no_plan head) is = is
scan_of read (concat_plan head children) is = is
scan_of read (eval_plan head e child) is = is
scan_of read (filter_plan head child) is = is
scan_of read (pack_plan head children validity) is = is
scan_of read (take_plan head codes values) is = is
scan_of read (share_plan head child) is = is
scan_of read (list_plan head elements offsets validity) is = is
scan_of read (row_idx_plan head) is = is
scan_of read (scan_plan head segment coding) is = is.0
scan_of read (zoned_plan head zones content table) is = is
scan_of read (pruning_plan head pruning table) is = is

scan_number : (leaf : ℕ) (p : Plan) → IsScan leaf p → (plan_head p).number ≡ leaf
scan_number leaf (no_plan head) is = absurd is
scan_number leaf (concat_plan head children) is = absurd is
scan_number leaf (eval_plan head e child) is = absurd is
scan_number leaf (filter_plan head child) is = absurd is
scan_number leaf (pack_plan head children validity) is = absurd is
scan_number leaf (take_plan head codes values) is = absurd is
scan_number leaf (share_plan head child) is = absurd is
scan_number leaf (list_plan head elements offsets validity) is = absurd is
scan_number leaf (row_idx_plan head) is = absurd is
scan_number leaf (scan_plan head segment coding) is = is
scan_number leaf (zoned_plan head zones content table) is = absurd is
scan_number leaf (pruning_plan head pruning table) is = absurd is

-- a plan of a table that is so and has that number is the plan of the number
of_number : (F : Plan → Type 0) (leaf : ℕ) → (F (plan_gap 0) → ⊥) → ((p : Plan) → F p → IsScan leaf p) → (nodes : List Node) → IsGoodTable nodes → IsOfTable F nodes → (leaf < length nodes) × F (plan_at nodes leaf)
of_number F leaf gap scans nodes good (inl is) = absurd (gap is)
of_number F leaf gap scans nodes good (inr (n, below, is)) =
    let same : n ≡ leaf = sym (ap (λ (h : Head). h.number) (head_in_table nodes good n below)) ∙ scan_number leaf (plan_at nodes n) (scans (plan_at nodes n) is) in
    (subst (λ (m : ℕ). m < length nodes) same below, subst (λ (m : ℕ). F (plan_at nodes m)) same is)

read_there : (nodes : List Node) → IsGoodTable nodes → (n : ℕ) → n < length nodes → (read : LeafRead) (handed : Handed) (row : ℕ) → Visits (IsLeafRead read) handed (plan_at nodes n) row → (read.leaf < length nodes) × IsScanOf read (plan_at nodes read.leaf)
read_there nodes good n there read handed row v =
    of_number (IsScanOf read) read.leaf (λ gap. gap) (scan_of read) nodes good
    (stands_of_table (IsScanOf read) nodes good n there (visit_stands (IsLeafRead read) (IsScanOf read) (tells_read read) handed (plan_at nodes n) row v))

leaf_there : (nodes : List Node) → IsGoodTable nodes → (n : ℕ) → n < length nodes → (leaf : ℕ) (handed : Handed) (row : ℕ) → Visits (IsLeafOf leaf) handed (plan_at nodes n) row → (leaf < length nodes) × IsScan leaf (plan_at nodes leaf)
leaf_there nodes good n there leaf handed row v =
    of_number (IsScan leaf) leaf (λ gap. gap) (λ p is. is) nodes good
    (stands_of_table (IsScan leaf) nodes good n there (visit_stands (IsLeafOf leaf) (IsScan leaf) (tells_leaf leaf) handed (plan_at nodes n) row v))

-- ---- a leaf names one segment

one_scan : (one other : LeafRead) (p : Plan) → IsScanOf one p → IsScanOf other p → one.segment ≡ other.segment
one_scan one other (no_plan head) is also = absurd is
one_scan one other (concat_plan head children) is also = absurd is
one_scan one other (eval_plan head e child) is also = absurd is
one_scan one other (filter_plan head child) is also = absurd is
one_scan one other (pack_plan head children validity) is also = absurd is
one_scan one other (take_plan head codes values) is also = absurd is
one_scan one other (share_plan head child) is also = absurd is
one_scan one other (list_plan head elements offsets validity) is also = absurd is
one_scan one other (row_idx_plan head) is also = absurd is
one_scan one other (scan_plan head segment coding) is also = sym is.1 ∙ also.1
one_scan one other (zoned_plan head zones content table) is also = absurd is
one_scan one other (pruning_plan head pruning table) is also = absurd is

pub one_segment : (nodes : List Node) → IsGoodTable nodes → (n : ℕ) → n < length nodes → (one other : LeafRead) (row at : ℕ) → Visits (IsLeafRead one) None (plan_at nodes n) row → Visits (IsLeafRead other) None (plan_at nodes n) at → one.leaf ≡ other.leaf → one.segment ≡ other.segment
one_segment nodes good n there one other row at v w same =
    let first : IsScanOf one (plan_at nodes one.leaf) = (read_there nodes good n there one None row v).1 in
    let second : IsScanOf other (plan_at nodes other.leaf) = (read_there nodes good n there other None at w).1 in
    one_scan one other (plan_at nodes other.leaf) (subst (λ (m : ℕ). IsScanOf one (plan_at nodes m)) same first) second

-- ---- a column that is handed in for a leaf counts

scan_kind : (leaf : ℕ) (kind : PlanKind) (head : Head) (ps : List Plan) → IsScan leaf (plan_grown_as head kind ps) → (segment : ℕ) × (coding : Coding) × (kind ≡ kinds.SegmentScan segment coding)
scan_kind leaf kinds.Concat head ps is = absurd is
scan_kind leaf (kinds.Eval a) head ps is = absurd is
scan_kind leaf kinds.Filter head ps is = absurd is
scan_kind leaf (kinds.Pack has_validity) head ps is = absurd is
scan_kind leaf kinds.Take head ps is = absurd is
scan_kind leaf kinds.Share head ps is = absurd is
scan_kind leaf (kinds.ListPack has_validity) head ps is = absurd is
scan_kind leaf kinds.RowIdx head ps is = absurd is
scan_kind leaf (kinds.SegmentScan segment coding) head ps is = (segment, coding, refl)
scan_kind leaf (kinds.Zoned zone_len stats) head ps is = absurd is
scan_kind leaf (kinds.LegacyStats zone_len stats) head ps is = absurd is
scan_kind leaf (kinds.Pruning zone_len stats proof) head ps is = absurd is

scan_shape : (nodes : List Node) → IsGoodTable nodes → (leaf : ℕ) → leaf < length nodes → IsScan leaf (plan_at nodes leaf) → (segment : ℕ) × HasShape nodes leaf (shapes.Leaf segment)
scan_shape nodes good leaf below is =
    let node : Node = node_at nodes leaf in
    let at : slice_get nodes leaf ≡ Some node = slice_get-get_or nodes leaf absent below in
    let k : Known nodes leaf node node.kind = known nodes good leaf node node.kind at refl in
    let kind = scan_kind leaf node.kind (head_at leaf node) (map (plan_at nodes) node.children) (subst (IsScan leaf) k.law is) in
    (kind.0, leaf_shape nodes good leaf node kind.0 kind.1 at kind.2)

-- of columns with the dtypes and rows of their plans, that of a leaf which a row reads is one of those for leaves
pub leaf_counts : (nodes : List Node) → IsGoodTable nodes → (n : ℕ) → n < length nodes → (leaf row : ℕ) → Visits (IsLeafOf leaf) None (plan_at nodes n) row → (all kept : List Kept) (column : ColumnData) → AreTyped nodes all → Keeps (IsForLeaf nodes) all kept → kept_at all leaf ≡ Some column →
    kept_at kept leaf ≡ Some column
leaf_counts nodes good n there leaf row v all kept column typed keeps at =
    let scan = leaf_there nodes good n there leaf None row v in
    let shape = scan_shape nodes good leaf scan.0 scan.1 in
    let right = typed leaf column at in
    kept_first (IsForLeaf nodes) all kept leaf column keeps (record { plan = record { known = scan.0; dtype = right.0; count = right.1 }; segment = shape.0; leaf = shape.1 }) at

-- ---- what is read of a leaf's segment

read_kind : (read : LeafRead) (kind : PlanKind) (head : Head) (ps : List Plan) → IsScanOf read (plan_grown_as head kind ps) → (coding : Coding) × (kind ≡ kinds.SegmentScan read.segment coding)
read_kind read kinds.Concat head ps is = absurd is
read_kind read (kinds.Eval a) head ps is = absurd is
read_kind read kinds.Filter head ps is = absurd is
read_kind read (kinds.Pack has_validity) head ps is = absurd is
read_kind read kinds.Take head ps is = absurd is
read_kind read kinds.Share head ps is = absurd is
read_kind read (kinds.ListPack has_validity) head ps is = absurd is
read_kind read kinds.RowIdx head ps is = absurd is
read_kind read (kinds.SegmentScan segment coding) head ps is = (coding, ap (λ (s : ℕ). kinds.SegmentScan s coding) is.1)
read_kind read (kinds.Zoned zone_len stats) head ps is = absurd is
read_kind read (kinds.LegacyStats zone_len stats) head ps is = absurd is
read_kind read (kinds.Pruning zone_len stats proof) head ps is = absurd is

-- a leaf that a row reads is one over the segment that it is read for
pub read_shape : (nodes : List Node) → IsGoodTable nodes → (n : ℕ) → n < length nodes → (read : LeafRead) (handed : Handed) (row : ℕ) → Visits (IsLeafRead read) handed (plan_at nodes n) row → HasShape nodes read.leaf (shapes.Leaf read.segment)
read_shape nodes good n there read handed row v =
    let scan = read_there nodes good n there read handed row v in
    let node : Node = node_at nodes read.leaf in
    let at : slice_get nodes read.leaf ≡ Some node = slice_get-get_or nodes read.leaf absent scan.0 in
    let k : Known nodes read.leaf node node.kind = known nodes good read.leaf node node.kind at refl in
    let kind = read_kind read node.kind (head_at read.leaf node) (map (plan_at nodes) node.children) (subst (IsScanOf read) k.law scan.1) in
    leaf_shape nodes good read.leaf node read.segment kind.0 at kind.1

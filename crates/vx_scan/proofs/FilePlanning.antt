-- What is prepared of a file is what its scan runs.
use Rattle.std.proofs.Common.{◌≡◌, ℕ, zero, suc, ◌⊎◌, inl, inr, ◌+◌, ◌<◌, ◌≤◌, Bool, true, false, List, [], ◌∷◌, Option, Some, None, Result, Ok, Err, Vec, Global, length, map, refl, sym, ap, ◌∙◌, subst, arith}
use Rattle.std.specs.Prelude.{IfOk, IsSome, IsSomeAnd}
use Rattle.std.specs.declared.alloc.AllocError.{AllocError}
use Rattle.std.specs.declared.ops.Range.{Range}
use Rattle.std.specs.List.{slice_get, AllByRecursion}
use Rattle.vx_base.specs.Data.{DataType}
use Rattle.vx_expr.specs.Bound.{Bound, IsBoundTo}
use Rattle.vx_expr.specs.Mentions.{is_root, uses_root}
use Rattle.vx_expr.specs.Terms.{Term}
use Rattle.vx_expr.specs.Types.{type_of}
use Rattle.vx_expr.proofs.RewrittenTypes.{type_as_root}
use Rattle.vx_io.specs.Ranges.{IsTableOf}
use Rattle.vx_layout.specs.Kept.{KeptFields, kept_fields}
use Rattle.vx_layout.specs.Nodes.{Node}
use Rattle.vx_layout.specs.Shape.{IsGoodTree}
use Rattle.vx_layout.specs.Trees.{head_at, head_of, subtree}
use Rattle.vx_layout.proofs.Unfolding.{good_later, head_of_subtree}
use Rattle.vx_lower.specs.KeptRows.{kept_type}
use Rattle.vx_lower.specs.Lowered.{lowered}
use Rattle.vx_lower.specs.Numbered.{numbered, NumberNoRows}
use Rattle.vx_lower.specs.Projected.{Projection, kept_of}
use Rattle.vx_lower.specs.TreePlans.{HasTreeRows, HasTreeType}
use Rattle.vx_lower.proofs.GoodTrees.{can_be_planned}
use Rattle.vx_lower.proofs.Planning.{kept_typed}
use Rattle.vx_plan.specs.Kinds.{HasKind, IsRowIdx}
use Rattle.vx_plan.specs.Nodes.{Node as PlanNode}
use Rattle.vx_rows.specs.Heads.{Head}
use Rattle.vx_plan.specs.Plans.{Plan, plan_at}
use Rattle.vx_plan.specs.Refs.{number_of}
use Rattle.vx_plan.specs.Rules.{node_at}
use Rattle.vx_plan.specs.Tables.{IsGoodTable}
use Rattle.vx_plan.proofs.Adding.{head_in_table}
use Rattle.vx_splits.specs.declared.selected_rows.SelectedRows.{SelectedRows}
use Rattle.vx_splits.specs.Chunks.{chunk_size}
use Rattle.vx_splits.specs.Taken.{selected_rows}
use Rattle.vx_splits.specs.Trimmed.{chosen_rows}
use Rattle.vx_drive.specs.declared.plans.ScanPlans.{ScanPlans}
use Rattle.vx_drive.specs.Plans.{AreInOrder}
use Rattle.vx_layout.specs.declared.files.ScanFile.{ScanFile}
use Rattle.vx_scan.specs.declared.settings.Settings.{Settings}
use Rattle.vx_scan.specs.Answer.{limited, row_count, size_of, pieces_of}
use Rattle.vx_scan.specs.Admission.{BeginsOver}
use Rattle.vx_scan.specs.PlanTexts.{held_tree, projection_of, IsProjectionPlanBy}
use Rattle.vx_scan.specs.FilePlans.{ArePlansOf, AreChunksOf, IsCutBy, IsPlannedFor, IsProjectedBy, IsProjectedIn, LiesInside}
use Rattle.vx_scan.specs.Builders.{new_building}
use Rattle.vx_scan.specs.Settings.{building_of, new_settings, scan_by}
use Rattle.vx_scan.proofs.ApartDictionaries.{good_apart}
use Rattle.vx_scan.proofs.ProjectedPlans.{projected_plan, projection_plan_is}

-- ---- the root of a file

-- a fact of the root's node is one of the tree's head
pub root_head : (P : Head → Type 0) (nodes : List Node) → IsGoodTree nodes → IsSomeAnd (slice_get nodes 0) (λ root. P (head_at 0 root)) → P (head_of (subtree nodes 0))
root_head P nodes good is = by_root (slice_get nodes 0) refl is
  where
    by_root : (node : Option Node) → slice_get nodes 0 ≡ node → IsSomeAnd node (λ root. P (head_at 0 root)) → P (head_of (subtree nodes 0))
    by_root None at is = absurd is
    by_root (Some node) at is = subst P (sym (head_of_subtree nodes (good_later nodes good) 0 node at)) is

pub file_rows : (nodes : List Node) (count : ℕ) → IsGoodTree nodes → IsSomeAnd (slice_get nodes 0) (λ root. count ≡ root.rows) → (head_of (subtree nodes 0)).rows ≡ count
file_rows nodes count good rows = sym (root_head (λ head. count ≡ head.rows) nodes good rows)

pub file_dtype : (nodes : List Node) (t : DataType) → IsGoodTree nodes → IsSomeAnd (slice_get nodes 0) (λ root. t ≡ root.dtype) → (head_of (subtree nodes 0)).dtype ≡ t
file_dtype nodes t good dtype = sym (root_head (λ head. t ≡ head.dtype) nodes good dtype)

-- ---- the expression

type_anywhere : (s t : DataType) (e : Term) → uses_root e ≡ false → type_of s e ≡ type_of t e
type_anywhere s t e unused = sym (type_as_root s e unused) ∙ type_as_root t e unused

bound_by : (b : Bool) (a : Bound) (t : DataType) → uses_root a.term ≡ b → type_of a.root a.term ≡ Some a.dtype → IsBoundTo a t → type_of t a.term ≡ Some a.dtype
bound_by true a t is typed bound = subst (λ (s : DataType). type_of s a.term ≡ Some a.dtype) (bound is) typed
bound_by false a t is typed bound = type_anywhere t a.root a.term is ∙ typed

-- an expression that is bound to a dtype has its own dtype over it
pub bound_typed : (a : Bound) (t : DataType) → type_of a.root a.term ≡ Some a.dtype → IsBoundTo a t → type_of t a.term ≡ Some a.dtype
bound_typed a t typed bound = bound_by (uses_root a.term) a t refl typed bound

-- ---- the plans

-- what is known of the lowered tree in its table
pub record HoldsTree (p : Projection) (table : List PlanNode) (child : ℕ) : Type 0 where
  pub good : IsGoodTable table
  pub last : child + 1 ≡ length table
  pub plan_is : plan_at table child ≡ held_tree p
  pub dtype : HasTreeType p.root (kept_of p) (plan_at table child)
  pub rows : HasTreeRows p.root (plan_at table child)
  pub unnumbered : NumberNoRows table

pub kept_same : (nodes : List Node) (p : Projection) (kept : KeptFields) → IsGoodTree nodes → p.root ≡ subtree nodes 0 → IsSomeAnd (slice_get nodes 0) (λ root. kept ≡ kept_fields root.dtype p.expression.term) → kept ≡ kept_of p
kept_same nodes p kept good is same =
    root_head (λ head. kept ≡ kept_fields head.dtype p.expression.term) nodes good same
    ∙ ap (λ (t : _). kept_fields (head_of t).dtype p.expression.term) (sym is)

pub holds_tree : (nodes : List Node) (expression : Bound) (kept : KeptFields) (table : List PlanNode) (child : ℕ) → IsGoodTree nodes → IsSomeAnd (slice_get nodes 0) (λ root. kept ≡ kept_fields root.dtype expression.term)
    → IsGoodTable table → child + 1 ≡ length table → plan_at table child ≡ numbered 0 (lowered (subtree nodes 0) kept) → HasTreeType (subtree nodes 0) kept (plan_at table child) → HasTreeRows (subtree nodes 0) (plan_at table child) → NumberNoRows table
    → HoldsTree (projection_of nodes expression) table child
holds_tree nodes expression kept table child good is table_good last plan_is dtype rows unnumbered =
    let same : kept ≡ kept_of (projection_of nodes expression) = kept_same nodes (projection_of nodes expression) kept good refl is in
    record {
      good = table_good;
      last = last;
      plan_is = plan_is ∙ ap (λ (k : KeptFields). numbered 0 (lowered (subtree nodes 0) k)) same;
      dtype = subst (λ (k : KeptFields). HasTreeType (subtree nodes 0) k (plan_at table child)) same dtype;
      rows = rows;
      unnumbered = unnumbered;
    }

-- over the lowered tree the expression has its dtype
pub child_typed : (p : Projection) (table : List PlanNode) (child : ℕ) → HoldsTree p table child → type_of (head_of p.root).dtype p.expression.term ≡ Some p.expression.dtype → type_of (node_at table child).dtype p.expression.term ≡ Some p.expression.dtype
child_typed p table child holds bound =
    let below : child < length table = let last = holds.last in omega (arith, last) in
    let t : DataType = (head_of p.root).dtype in
    let dtype : (node_at table child).dtype ≡ kept_type (kept_of p) t = sym (ap (λ (head : Head). head.dtype) (head_in_table table holds.good child below)) ∙ holds.dtype in
    ap (λ (s : DataType). type_of s p.expression.term) dtype ∙ (kept_typed t p.expression.term (subst IsSome (sym bound) refl) ∙ bound)

-- the table still keeps its rules
projected_good : (b : Bool) (old new : List PlanNode) (a : Bound) (child number : ℕ) → IsGoodTable old → child < length old → child + 1 ≡ length old → IsProjectedBy b old new a child number → IsGoodTable new × (number + 1 ≡ length new)
projected_good true old new a child number good known last (same, root) = (subst IsGoodTable (sym same) good, let e : length new ≡ length old = ap length same in omega (arith, last, root, e))
projected_good false old new a child number good known last (t, over) = (over.kept.good, over.last)

-- ---- what numbers rows

no_numbers : (table : List PlanNode) → NumberNoRows table → (n : ℕ) → HasKind IsRowIdx table n → ⊥
no_numbers [] none n has = has
no_numbers (node ∷ table) none zero has = none.0 has
no_numbers (node ∷ table) none (suc n) has = no_numbers table none.1 n has

child_rows : (p : Projection) (table : List PlanNode) (child : ℕ) → HoldsTree p table child → (node_at table child).rows ≡ (head_of p.root).rows
child_rows p table child holds =
    let below : child < length table = let last = holds.last in omega (arith, last) in
    sym (ap (λ (head : Head). head.rows) (head_in_table table holds.good child below)) ∙ holds.rows

over_numbers : (p : Projection) (old new : List PlanNode) (child n : ℕ) → HoldsTree p old child → HasKind IsRowIdx old n ⊎ ((node_at new n).rows ≡ (node_at old child).rows) → (node_at new n).rows ≡ (head_of p.root).rows
over_numbers p old new child n holds (inl before) = absurd (no_numbers old holds.unnumbered n before)
over_numbers p old new child n holds (inr rows) = rows ∙ child_rows p old child holds

numbers_all : (b : Bool) (p : Projection) (old new : List PlanNode) (a : Bound) (child number : ℕ) → HoldsTree p old child → IsProjectedBy b old new a child number → (n : ℕ) → HasKind IsRowIdx new n → (node_at new n).rows ≡ (head_of p.root).rows
numbers_all true p old new a child number holds (same, root) n has = absurd (no_numbers old holds.unnumbered n (subst (λ (table : List PlanNode). HasKind IsRowIdx table n) same has))
numbers_all false p old new a child number holds (t, over) n has = over_numbers p old new child n holds (over.numbers n has)

-- what is planned for a projection
pub planned_for : (p : Projection) (nodes : List Node) (old new : List PlanNode) (child number : ℕ) → IsGoodTree nodes → p.root ≡ subtree nodes 0 → type_of p.expression.root p.expression.term ≡ Some p.expression.dtype → IsBoundTo p.expression (head_of p.root).dtype
    → HoldsTree p old child → IsProjectedIn old new p.expression child number → IsPlannedFor p new number
planned_for p nodes old new child number good root_is typed bound holds projected =
    let own : type_of (head_of p.root).dtype p.expression.term ≡ Some p.expression.dtype = bound_typed p.expression (head_of p.root).dtype typed bound in
    let known : child < length old = let last = holds.last in omega (arith, last) in
    let there = projected_good (is_root p.expression.term) old new p.expression child number holds.good known holds.last projected in
    record {
      good = there.0;
      last = there.1;
      plan_is = projection_plan_is p old new child number (is_root p.expression.term) holds.plan_is projected;
      plan = λ offset. projected_plan (record p { offset = offset }) old new child number (is_root p.expression.term) refl (can_be_planned nodes (record p { offset = offset }) good root_is (subst IsSome (sym own) refl)) own holds.plan_is projected;
      numbers = numbers_all (is_root p.expression.term) p old new p.expression child number holds projected;
      apart = good_apart nodes p good root_is;
    }

-- from which number on rows are counted doesn't count for the plan
from_any : (b : Bool) (p : Projection) (offset : ℕ) (q : Plan) → IsProjectionPlanBy b p q → IsProjectionPlanBy b (record p { offset = offset }) q
from_any true p offset q is = is
from_any false p offset q is = is

pub prepared_plans : (file : ScanFile) (settings : Settings) (plans : ScanPlans) → IsPlannedFor (projection_of file.layout settings.projection) plans.table (number_of plans.projection)
    → plans.locations.items ≡ file.locations.items → IsTableOf plans.ranges file.locations.items → plans.row_offset ≡ (scan_by file settings).projection.offset → plans.idle_limit ≡ settings.idle_limit
    → ArePlansOf (scan_by file settings) settings.idle_limit plans
prepared_plans file settings plans planned locations ranges offset limit = record {
  good = planned.good;
  known = let last = planned.last in omega (arith, last);
  plan_is = from_any (is_root settings.projection.term) (projection_of file.layout settings.projection) (scan_by file settings).projection.offset (plan_at plans.table (number_of plans.projection)) planned.plan_is;
  plan = planned.plan (scan_by file settings).projection.offset;
  locations = locations;
  ranges = ranges;
  offset = offset;
  numbers = planned.numbers;
  limit_is = limit;
  apart = planned.apart;
}

-- ---- the chunks

lies_within : (few many : ℕ) → few ≤ many → (chunks : List SelectedRows) → AllByRecursion (LiesInside few) chunks → AllByRecursion (LiesInside many) chunks
lies_within few many less [] inside = tt
lies_within few many less (chunk ∷ chunks) inside =
    (record { forwards = inside.0.forwards; below = let below = inside.0.below in omega (arith, below, less); mask = inside.0.mask }, lies_within few many less chunks inside.1)

pub prepared_chunks : (file : ScanFile) (settings : Settings) (rows : Range ℕ) (size : ℕ) (chunks : List SelectedRows) → BeginsOver (scan_by file settings) rows → size ≡ size_of (scan_by file settings)
    → map chosen_rows chunks ≡ pieces_of size (limited settings.limit (selected_rows settings.selection rows.start rows.end)) → AllByRecursion (LiesInside rows.end) chunks → AreInOrder chunks → AllByRecursion (IsCutBy settings.selection) chunks → AreChunksOf (scan_by file settings) chunks
prepared_chunks file settings rows size chunks begins size_is pieces inside ordered trimmed = record {
  pieces = pieces ∙ (ap (λ (n : ℕ). pieces_of n (limited settings.limit (selected_rows settings.selection rows.start rows.end))) size_is ∙ ap (pieces_of (size_of (scan_by file settings))) begins.rows);
  inside = lies_within rows.end (row_count (scan_by file settings)) begins.below chunks inside;
  ordered = ordered;
  trimmed = trimmed;
}

pub chunks_or : (file : ScanFile) (settings : Settings) (rows : Range ℕ) (size : ℕ) (result : Result (Vec SelectedRows Global) AllocError) → BeginsOver (scan_by file settings) rows → size ≡ size_of (scan_by file settings)
    → IfOk result (λ chunks. map chosen_rows chunks.items ≡ pieces_of size (limited settings.limit (selected_rows settings.selection rows.start rows.end))) → IfOk result (λ chunks. AllByRecursion (LiesInside rows.end) chunks.items) → IfOk result (λ chunks. AreInOrder chunks.items) → IfOk result (λ chunks. AllByRecursion (IsCutBy settings.selection) chunks.items) → IfOk result (λ chunks. AreChunksOf (scan_by file settings) chunks.items)
chunks_or file settings rows size (Ok chunks) begins size_is pieces inside ordered trimmed = prepared_chunks file settings rows size chunks.items begins size_is pieces inside ordered trimmed
chunks_or file settings rows size (Err error) begins size_is pieces inside ordered trimmed = tt

-- how many rows a chunk has
pub size_told : (file : ScanFile) (settings : Settings) (count size : ℕ) (b : Bool) → IsGoodTree file.layout → IsSomeAnd (slice_get file.layout 0) (λ root. count ≡ root.rows) → b ≡ is_root settings.projection.term → size ≡ chunk_size b count file.locations.items → size ≡ size_of (scan_by file settings)
size_told file settings count size b good rows root_is is =
    let count_is : count ≡ row_count (scan_by file settings) = sym (file_rows file.layout count good rows) in
    is ∙ (λ i. chunk_size (root_is i) (count_is i) file.locations.items)

-- ---- a new builder

pub new_told : (file : ScanFile) (settings : Settings) (t : DataType) → settings ≡ new_settings t → (head_of (subtree file.layout 0)).dtype ≡ t → building_of file settings ≡ new_building file.layout file.locations.items
new_told file settings t is dtype = ap (building_of file) (is ∙ ap new_settings (sym dtype))

-- Pruning plans: their rows, by the column of all their zones.
use Rattle.std.proofs.Common.{◌≡◌, ℕ, zero, suc, ◌+◌, ◌*◌, ◌-◌, ◌/◌, ◌<◌, ◌≤◌, Bool, true, false, List, [], ◌∷◌, ◌++◌, Option, Some, None, Result, Ok, Err, length, map, get_or, replicate, drop, refl, sym, ap, ◌∙◌, subst, arith, append-nil, append_assoc}
use Rattle.std.specs.Prelude.{option_and_then, option_map, IfErr, IfOk, IsSomeAnd}
use Rattle.std.specs.Int.{div_ceil}
use Rattle.std.specs.List.{slice_get, range_with_len, AllByRecursion}
use Rattle.std.proofs.lemmas.Grind.{div_ceil_times}
use Rattle.std.proofs.lemmas.List.{drop_all, length-map}
use Rattle.std.proofs.lemmas.Nat.{div_below}
use Rattle.std.proofs.lemmas.Option.{slice_get-get_or}
use Rattle.vx_base.specs.declared.dtypes.Nullability.TheVariants.{NonNullable}
use Rattle.vx_base.specs.Columns.{ColumnData}
use Rattle.vx_base.specs.Data.{DataType, Datum, bool_type, truth}
use Rattle.vx_base.specs.Fits.{Fits}
use Rattle.vx_base.specs.Masks.{true_count}
use Rattle.vx_arrays.specs.PackedColumns.{IsColumn}
use Rattle.vx_base.specs.Slots.{where_valid}
use Rattle.vx_arrays.proofs.PackedRows.{column_of_values}
use Rattle.vx_masks.specs.Rows.{NullsHold}
use Rattle.vx_expr.specs.declared.statistics.Statistic.{Statistic}
use Rattle.vx_expr.specs.Bound.{Bound}
use Rattle.vx_expr.specs.Rows.{no_bound}
use Rattle.vx_expr.specs.Terms.{Term}
use Rattle.vx_rows.specs.Derivations.{Derivation, Leaves, derived, derived_each, each_row}
use Rattle.vx_rows.specs.Given.{each_with_given, with_given}
use Rattle.vx_picking.specs.Rows.{rows_of, SelectsSome}
use Rattle.vx_picking.proofs.PickedValues.{row_false, row_true}
use Rattle.vx_picking.proofs.SelectedRows.{rows_all, rows_count, true_first}
use Rattle.vx_plan.specs.declared.nodes.PlanKind.{PlanKind}
use Rattle.vx_plan.specs.declared.nodes.PlanKind.TheVariants as kinds
use Rattle.vx_plan.specs.Kinds.{proof_of, stats_of, zone_len_of, HasKind, IsPruning, IsZoned}
use Rattle.vx_plan.specs.Nodes.{Node, absent}
use Rattle.vx_plan.specs.Plans.{Plan, plan_at, plan_head, pruning_plan}
use Rattle.vx_plan.specs.PlanRows.{plan_derivation}
use Rattle.vx_plan.specs.Pruning.{is_pruned_at, pruning_of, zone_table}
use Rattle.vx_plan.specs.Reaches.{all_rows}
use Rattle.vx_plan.specs.Rules.{node_at}
use Rattle.vx_plan.proofs.Collecting.{kind_there}
use Rattle.vx_zones.specs.Prunes.{prunes, pruned_zones}
use Rattle.vx_zones.specs.Tables.{TableData, table_of, zones_along, zones_in, IsTable}
use Rattle.vx_steps.specs.declared.errors.StepError.{StepError}
use Rattle.vx_steps.specs.declared.errors.StepError.TheVariants.{Memory}
use Rattle.vx_steps.specs.Computed.{AreReady, Computes, Outcome}
use Rattle.vx_steps.specs.Given.{row_value, values_for}
use Rattle.vx_steps.specs.Held.{Held, IsBy, handed_in}
use Rattle.vx_steps.specs.Pruned.{rows_pruned, zones_pruned, ArePruned, TellOfRows, TellsOfZones}
use Rattle.vx_steps.specs.Visits.{IsLeafRead}
use Rattle.vx_steps.proofs.AllRows.{rows_with}
use Rattle.vx_steps.proofs.ComputedRows.{cause_up, memory_computed}
use Rattle.vx_steps.proofs.Shaping.{head_of, IsPruningPlan}
use Rattle.vx_steps.proofs.Visiting.{up_zones}
use Rattle.vx_steps.proofs.WholeRows.{same_below}

-- ---- all rows of the zones

-- all values of rows, by the value of each
pub each_given : (leaves : Leaves) (d : ℕ → Derivation) (from count : ℕ) (values : List Datum) → map (λ row. derived leaves (d row)) (range_with_len from count) ≡ map Some values → derived_each leaves (each_row d from count) ≡ Some values
each_given leaves d from zero [] are = refl
each_given leaves d from zero (v ∷ values) are = absurd cc
each_given leaves d from (suc count) [] are = absurd cc
each_given leaves d from (suc count) (v ∷ values) are =
    let first : derived leaves (d from) ≡ Some v = cc in
    let rest : map (λ row. derived leaves (d row)) (range_with_len (from + 1) count) ≡ map Some values = cc in
    let more : derived_each leaves (each_row d (from + 1) count) ≡ Some values = each_given leaves d (from + 1) count values rest in
    rw (first, more) refl

told_each : (h : Held) (leaves : Leaves) (table rows : ℕ) (told : ColumnData) → Computes h table 0 (all_rows rows) (Ok told) → IsBy h leaves → derived_each leaves (each_with_given (values_for (handed_in h)) (each_row (plan_derivation h.offset (plan_at h.nodes table)) 0 rows)) ≡ Some told.values
told_each h leaves table rows told computed by =
    let d : ℕ → Derivation = λ row. with_given (values_for (handed_in h)) (plan_derivation h.offset (plan_at h.nodes table) row) in
    let all : map (λ row. derived leaves (d row)) (range_with_len 0 rows) ≡ map Some told.values = ap (map (λ row. derived leaves (d row))) (sym (rows_all 0 rows)) ∙ computed leaves by in
    ap (derived_each leaves) (rows_with (values_for (handed_in h)) (plan_derivation h.offset (plan_at h.nodes table)) 0 rows) ∙ each_given leaves d 0 rows told.values all

row_told : (h : Held) (leaves : Leaves) (n table : ℕ) (told : ColumnData) (over : IsPruningPlan h.nodes n table) → Computes h table 0 (all_rows (node_at h.nodes table).rows) (Ok told) → IsBy h leaves → (row : ℕ) → row_value leaves (handed_in h) h.offset (pruning_plan (head_of h.nodes n) over.pruning (plan_at h.nodes table)) row ≡ is_pruned_at over.pruning (node_at h.nodes n).rows row told.values
row_told h leaves n table told over computed by row =
    let rows : (plan_head (plan_at h.nodes table)).rows ≡ (node_at h.nodes table).rows = ap (λ h. h.rows) over.table_head in
    let F : ℕ → Type 0 = λ count. derived_each leaves (each_with_given (values_for (handed_in h)) (each_row (plan_derivation h.offset (plan_at h.nodes table)) 0 count)) ≡ Some told.values in
    ap (option_and_then (is_pruned_at over.pruning (node_at h.nodes n).rows row)) (subst F (sym rows) (told_each h leaves table (node_at h.nodes table).rows told computed by))

-- ---- as many zones as are told of

along_long : (stats : List Statistic) (zone_len left : ℕ) (told : List Datum) → length (zones_along stats zone_len left told) ≡ length told
along_long stats zone_len left [] = refl
along_long stats zone_len left (d ∷ told) = ap suc (along_long stats zone_len (left - zone_len) told)

pub pruned_long : (bound : ℕ) (e : Term) (table : TableData) → length (pruned_zones bound e table) ≡ length table.told
pruned_long bound e table = length-map (zones_in table) (prunes bound e) ∙ along_long table.stats table.zone_len table.row_count table.told

reached : (row rows reach : ℕ) → row < rows → rows ≤ reach → row < reach
reached row rows reach less far = omega arith

pub all_zoned : (zone_len rows zones : ℕ) → 0 < zone_len → zones ≡ div_ceil rows zone_len → rows ≤ zones * zone_len
all_zoned zone_len rows zones some e = subst (λ (k : ℕ). rows ≤ k * zone_len) (sym e) (div_ceil_times rows zone_len some).0

zone_there : (zone_len rows zones row : ℕ) → 0 < zone_len → zones ≡ div_ceil rows zone_len → row < rows → row / zone_len < zones
zone_there zone_len rows zones row some e less = div_below row zone_len zones some (reached row rows (zones * zone_len) less (all_zoned zone_len rows zones some e))

truth_there : (pruned : List Bool) (k : ℕ) → k < length pruned → option_map truth (slice_get pruned k) ≡ Some (truth (get_or pruned k false))
truth_there [] k less = absurd (omega arith)
truth_there (b ∷ bs) zero less = refl
truth_there (b ∷ bs) (suc k) less = truth_there bs k (omega arith)

some_truths : (f : ℕ → Bool) (rows : List ℕ) → map (λ row. Some (truth (f row))) rows ≡ map Some (map truth (map f rows))
some_truths f [] = refl
some_truths f (row ∷ rows) = ap (λ (rest : List (Option Datum)). Some (truth (f row)) ∷ rest) (some_truths f rows)

-- ---- what is asked of the zones

pub pruning_kind : (nodes : List Node) (n table : ℕ) → n < length nodes → IsPruningPlan nodes n table → HasKind IsPruning nodes n
pruning_kind nodes n table known over =
    let at : slice_get nodes n ≡ Some (node_at nodes n) = slice_get-get_or nodes n absent known in
    let G : Option Node → Type 0 = λ o. IsSomeAnd o (λ node. IsPruning node.kind) in
    subst G (sym at) (subst IsPruning (sym over.kind) tt)

-- a pruning plan is over zones, and has a predicate
kind_zoned : (kind : PlanKind) → IsPruning kind → IsZoned kind
kind_zoned kinds.Concat is = absurd is
kind_zoned (kinds.Eval a) is = absurd is
kind_zoned kinds.Filter is = absurd is
kind_zoned (kinds.Pack has_validity) is = absurd is
kind_zoned kinds.Take is = absurd is
kind_zoned kinds.Share is = absurd is
kind_zoned (kinds.ListPack has_validity) is = absurd is
kind_zoned kinds.RowIdx is = absurd is
kind_zoned (kinds.SegmentScan segment coding) is = absurd is
kind_zoned (kinds.Zoned zone_len stats) is = absurd is
kind_zoned (kinds.LegacyStats zone_len stats) is = absurd is
kind_zoned (kinds.Pruning zone_len stats proof) is = tt

kind_proof : (kind : PlanKind) → IsPruning kind → (predicate : Bound) × (proof_of kind ≡ Some predicate)
kind_proof kinds.Concat is = absurd is
kind_proof (kinds.Eval a) is = absurd is
kind_proof kinds.Filter is = absurd is
kind_proof (kinds.Pack has_validity) is = absurd is
kind_proof kinds.Take is = absurd is
kind_proof kinds.Share is = absurd is
kind_proof (kinds.ListPack has_validity) is = absurd is
kind_proof kinds.RowIdx is = absurd is
kind_proof (kinds.SegmentScan segment coding) is = absurd is
kind_proof (kinds.Zoned zone_len stats) is = absurd is
kind_proof (kinds.LegacyStats zone_len stats) is = absurd is
kind_proof (kinds.Pruning zone_len stats proof) is = (proof, refl)

pub pruning_zoned : (nodes : List Node) (n : ℕ) → HasKind IsPruning nodes n → HasKind IsZoned nodes n
pruning_zoned nodes n has = by (slice_get nodes n) has
  where
    by : (o : Option Node) → IsSomeAnd o (λ node. IsPruning node.kind) → IsSomeAnd o (λ node. IsZoned node.kind)
    by None is = is
    by (Some node) is = kind_zoned node.kind is

pub proof_there : (nodes : List Node) (n : ℕ) → HasKind IsPruning nodes n → (predicate : Bound) × (proof_of (node_at nodes n).kind ≡ Some predicate)
proof_there nodes n has = kind_proof (node_at nodes n).kind (kind_there IsPruning nodes n has)

pub all_counted : (count : ℕ) → true_count (all_rows count) ≡ count
all_counted zero = refl
all_counted (suc count) = true_first (all_rows count) ∙ ap suc (all_counted count)

-- the zones' column is a table of them
pub told_of_zones : (nodes : List Node) (n table : ℕ) (told : ColumnData) → IsPruningPlan nodes n table → told.dtype ≡ (node_at nodes table).dtype → length told.values ≡ (node_at nodes table).rows → TellsOfZones (node_at nodes n) told
told_of_zones nodes n table told over type long predicate is =
    let kind : PlanKind = (node_at nodes n).kind in
    let same : over.pruning.predicate ≡ predicate = by (sym (ap proof_of over.kind) ∙ is) in
    let P : Bound → Type 0 = λ b. IsTable b.root over.pruning.statistics told.dtype (length told.values) over.pruning.zone_len (node_at nodes n).rows in
    let K : PlanKind → Type 0 = λ k. IsTable predicate.root (stats_of k) told.dtype (length told.values) (zone_len_of k) (node_at nodes n).rows in
    subst K (sym over.kind) (subst P same (record { some_rows = over.zones.some_rows; stand = over.zones.stand; shape = type ∙ over.zones.dtype; count = long ∙ over.zones.count }))
  where
    by : Some over.pruning.predicate ≡ Some predicate → over.pruning.predicate ≡ predicate
    by e = cc

some_same : (one other : Bound) → Some one ≡ Some other → one ≡ other
some_same one other e = cc

-- the proof is that of the plan, and the table is made of what the plan tells
pub record IsOfPlan (node : Node) (proof : Bound) (t : DataType) (stats : List Statistic) (zone_len rows : ℕ) : Type 0 where
  pub proof_is : Some proof ≡ proof_of node.kind
  pub root : t ≡ proof.root
  pub stats_are : stats ≡ stats_of node.kind
  pub length_is : zone_len ≡ zone_len_of node.kind
  pub rows_are : rows ≡ node.rows

pub right_table : (node : Node) (proof : Bound) (t : DataType) (stats : List Statistic) (zone_len rows : ℕ) (told : ColumnData) → IsOfPlan node proof t stats zone_len rows → TellsOfZones node told → IsTable t stats told.dtype (length told.values) zone_len rows
right_table node proof t stats zone_len rows told of_plan tells =
    let there : IsTable proof.root (stats_of node.kind) told.dtype (length told.values) (zone_len_of node.kind) node.rows = tells proof (sym of_plan.proof_is) in
    let T : DataType → Type 0 = λ s. IsTable s (stats_of node.kind) told.dtype (length told.values) (zone_len_of node.kind) node.rows in
    let S : List Statistic → Type 0 = λ ss. IsTable t ss told.dtype (length told.values) (zone_len_of node.kind) node.rows in
    let L : ℕ → Type 0 = λ k. IsTable t stats told.dtype (length told.values) k node.rows in
    let R : ℕ → Type 0 = λ k. IsTable t stats told.dtype (length told.values) zone_len k in
    subst R (sym of_plan.rows_are) (subst L (sym of_plan.length_is) (subst S (sym of_plan.stats_are) (subst T (sym of_plan.root) there)))

pub pruned_by_proof : (node : Node) (proof : Bound) (t : DataType) (stats : List Statistic) (zone_len rows bound : ℕ) (told : List Datum) (table : TableData) (pruned : List Bool) → IsOfPlan node proof t stats zone_len rows → table ≡ table_of t stats told zone_len rows → bound ≡ no_bound → pruned ≡ pruned_zones bound proof.term table → ArePruned node told pruned
pruned_by_proof node proof t stats zone_len rows bound told table pruned of_plan made none are predicate is =
    let same : proof ≡ predicate = some_same proof predicate (of_plan.proof_is ∙ is) in
    let root : t ≡ predicate.root = of_plan.root ∙ ap (λ (b : Bound). b.root) same in
    let whole : table ≡ table_of predicate.root (stats_of node.kind) told (zone_len_of node.kind) node.rows =
    made ∙ (λ i. table_of (root i) (of_plan.stats_are i) told (of_plan.length_is i) (of_plan.rows_are i)) in
    are ∙ (λ i. pruned_zones (none i) ((same i).term) (whole i))

-- the zones and the length by which rows are told of them
pub told_of_rows : (node : Node) (told : List Datum) (pruned rows : List Bool) (zone_len start : ℕ) (bits : List Bool) (values : List Datum) → ArePruned node told pruned → zone_len ≡ zone_len_of node.kind → rows ≡ rows_pruned pruned zone_len start bits → values ≡ map truth rows → TellOfRows node told start bits values
told_of_rows node told pruned rows zone_len start bits values are length_is noted made predicate is =
    made ∙ ap (map truth) (noted ∙ (λ i. rows_pruned (are predicate is i) (length_is i) start bits))

-- what the zones read, the rows do
pub ready_zones : (h : Held) (n table start : ℕ) (bits : List Bool) → IsPruningPlan h.nodes n table → SelectsSome bits → AreReady h n start bits → AreReady h table 0 (all_rows (node_at h.nodes table).rows)
ready_zones h n table start bits over some ready read r = ready read (up_zones h.nodes (handed_in h) n table start bits over some (IsLeafRead read) r)

-- ---- the plan's rows

pub pruned_computed : (h : Held) (n table start : ℕ) (bits : List Bool) (told out : ColumnData) → IsPruningPlan h.nodes n table → start + length bits ≤ (node_at h.nodes n).rows → length told.values ≡ (node_at h.nodes table).rows → Computes h table 0 (all_rows (node_at h.nodes table).rows) (Ok told) → TellOfRows (node_at h.nodes n) told.values start bits out.values → Computes h n start bits (Ok out)
pruned_computed h n table start bits told out over inside long computed tell leaves are =
    subst (λ (p : Plan). Outcome leaves (handed_in h) h.offset p start bits (Ok out)) (sym over.law)
    (same_below (row_value leaves (handed_in h) h.offset (pruning_plan (head_of h.nodes n) over.pruning (plan_at h.nodes table))) (λ row. Some (truth (f row))) (node_at h.nodes n).rows start bits inside each
    ∙ some_truths f (rows_of start bits) ∙ ap (map Some) (sym values))
  where
    pruned : List Bool
    pruned = pruned_zones no_bound over.pruning.predicate.term (zone_table over.pruning (node_at h.nodes n).rows told.values)

    f : ℕ → Bool
    f row = get_or pruned (row / over.pruning.zone_len) false

    values : out.values ≡ map truth (map f (rows_of start bits))
    values =
        let K : PlanKind → Type 0 = λ k. out.values ≡ map truth (rows_pruned (pruned_zones no_bound over.pruning.predicate.term (zone_table (pruning_of (zone_len_of k) (stats_of k) over.pruning.predicate) (node_at h.nodes n).rows told.values)) (zone_len_of k) start bits) in
        subst K over.kind (tell over.pruning.predicate (ap proof_of over.kind))

    zones : length pruned ≡ div_ceil (node_at h.nodes n).rows over.pruning.zone_len
    zones = pruned_long no_bound over.pruning.predicate.term (zone_table over.pruning (node_at h.nodes n).rows told.values) ∙ long ∙ over.zones.count

    each : (row : ℕ) → row < (node_at h.nodes n).rows → row_value leaves (handed_in h) h.offset (pruning_plan (head_of h.nodes n) over.pruning (plan_at h.nodes table)) row ≡ Some (truth (f row))
    each row less = row_told h leaves n table told over computed are row ∙ truth_there pruned (row / over.pruning.zone_len) (zone_there over.pruning.zone_len (node_at h.nodes n).rows (length pruned) row over.zones.some_rows zones less)

pub pruned_result : (h : Held) (n table start : ℕ) (bits : List Bool) (told : ColumnData) (result : Result ColumnData StepError) → IsPruningPlan h.nodes n table → start + length bits ≤ (node_at h.nodes n).rows → length told.values ≡ (node_at h.nodes table).rows → Computes h table 0 (all_rows (node_at h.nodes table).rows) (Ok told) → IfOk result (λ column. TellOfRows (node_at h.nodes n) told.values start bits column.values) → IfErr result (λ error. error ≡ Memory) → Computes h n start bits result
pruned_result h n table start bits told (Ok out) over inside long computed tell memory = pruned_computed h n table start bits told out over inside long computed tell
pruned_result h n table start bits told (Err error) over inside long computed tell memory = subst (λ (e : StepError). Computes h n start bits (Err e)) (sym memory) (memory_computed h n start bits)

-- the zones' fault is the rows'
pub pruned_failed : (h : Held) (n table start : ℕ) (bits : List Bool) (fault : StepError) → IsPruningPlan h.nodes n table → SelectsSome bits → Computes h table 0 (all_rows (node_at h.nodes table).rows) (Err fault) → Computes h n start bits (Err fault)
pruned_failed h n table start bits fault over some computed leaves are =
    cause_up leaves h.offset (handed_in h) (plan_at h.nodes table) 0 (all_rows (node_at h.nodes table).rows) (handed_in h) (plan_at h.nodes n) start bits (up_zones h.nodes (handed_in h) n table start bits over some) fault (computed leaves are)

-- ---- truth values that are never null

truths_held : (n : ℕ) (bs : List Bool) → NullsHold false (replicate n true) bs
truths_held zero bs = tt
truths_held (suc n) [] = tt
truths_held (suc n) (b ∷ bs) = truths_held n bs

pub all_held : (valid truths : List Bool) → valid ≡ replicate (length truths) true → NullsHold false valid truths
all_held valid truths is = subst (λ (bs : List Bool). NullsHold false bs truths) (sym is) (truths_held (length truths) truths)

truths_there : (bs : List Bool) → where_valid (replicate (length bs) true) (map truth bs) ≡ map truth bs
truths_there [] = refl
truths_there (b ∷ bs) = ap (λ (vs : List Datum). truth b ∷ vs) (truths_there bs)

pub all_there : (valid truths : List Bool) → valid ≡ replicate (length truths) true → where_valid valid (map truth truths) ≡ map truth truths
all_there valid truths is = ap (λ (bs : List Bool). where_valid bs (map truth truths)) is ∙ truths_there truths

truths_fit : (bs : List Bool) → AllByRecursion (Fits (bool_type NonNullable)) (map truth bs)
truths_fit [] = tt
truths_fit (b ∷ bs) = (tt, truths_fit bs)

pub truths_column : (rows : ColumnData) (truths : List Bool) → rows.dtype ≡ bool_type NonNullable → rows.values ≡ map truth truths → IsColumn (bool_type NonNullable) rows
truths_column rows truths type values = column_of_values (bool_type NonNullable) (map truth truths) rows (truths_fit truths) type values

-- ---- row by row

pub row_noted : (pruned : List Bool) (zone_len start row : ℕ) (mask rows more all : List Bool) (bit : Bool) → slice_get mask row ≡ Some true → slice_get pruned ((start + row) / zone_len) ≡ Some bit → rows ++ rows_pruned pruned zone_len (start + row) (drop row mask) ≡ all → more ≡ rows ++ bit ∷ [] → more ++ rows_pruned pruned zone_len (start + (row + 1)) (drop (row + 1) mask) ≡ all
row_noted pruned zone_len start row mask rows more all bit at is so_far pushed =
    let f : ℕ → Bool = λ r. get_or pruned (r / zone_len) false in
    let rest : List Bool = map f (rows_of (start + (row + 1)) (drop (row + 1) mask)) in
    let here : bit ≡ f (start + row) = sym (bit_at pruned ((start + row) / zone_len) bit is) in
    ap (λ (bs : List Bool). bs ++ rest) pushed ∙ append_assoc rows (bit ∷ []) rest ∙ ap (λ (b : Bool). rows ++ b ∷ rest) here ∙ ap (λ (ns : List ℕ). rows ++ map f ns) (sym (row_true start row mask at)) ∙ so_far
  where
    bit_at : (bs : List Bool) (k : ℕ) (b : Bool) → slice_get bs k ≡ Some b → get_or bs k false ≡ b
    bit_at [] k b e = absurd cc
    bit_at (x ∷ bs) zero b e = cc
    bit_at (x ∷ bs) (suc k) b e = bit_at bs k b e

pub row_passed : (pruned : List Bool) (zone_len start row : ℕ) (mask rows all : List Bool) → slice_get mask row ≡ Some false → rows ++ rows_pruned pruned zone_len (start + row) (drop row mask) ≡ all → rows ++ rows_pruned pruned zone_len (start + (row + 1)) (drop (row + 1) mask) ≡ all
row_passed pruned zone_len start row mask rows all at so_far =
    let f : ℕ → Bool = λ r. get_or pruned (r / zone_len) false in
    ap (λ (ns : List ℕ). rows ++ map f ns) (sym (row_false start row mask at)) ∙ so_far

pub rows_noted : (pruned : List Bool) (zone_len start row : ℕ) (mask rows all : List Bool) → length mask ≤ row → rows ++ rows_pruned pruned zone_len (start + row) (drop row mask) ≡ all → rows ≡ all
rows_noted pruned zone_len start row mask rows all end so_far =
    let f : ℕ → Bool = λ r. get_or pruned (r / zone_len) false in
    let none : drop row mask ≡ [] = drop_all row mask end in
    sym (append-nil rows) ∙ ap (λ (bs : List Bool). rows ++ map f (rows_of (start + row) bs)) (sym none) ∙ so_far

-- ---- together

pub rows_zoned : (node : Node) (told : ColumnData) (pruned : List Bool) (predicate : Bound) → proof_of node.kind ≡ Some predicate → TellsOfZones node told → pruned ≡ zones_pruned node predicate told.values → (0 < zone_len_of node.kind) × (node.rows ≤ length pruned * zone_len_of node.kind)
rows_zoned node told pruned predicate is tells same =
    let t = tells predicate is in
    let long : length pruned ≡ div_ceil node.rows (zone_len_of node.kind) = ap length same ∙ pruned_long no_bound predicate.term (zone_table (pruning_of (zone_len_of node.kind) (stats_of node.kind) predicate) node.rows told.values) ∙ t.count in
    (t.some_rows, all_zoned (zone_len_of node.kind) node.rows (length pruned) t.some_rows long)

pub pruned_count : (pruned : List Bool) (zone_len start : ℕ) (bits : List Bool) → length (map truth (rows_pruned pruned zone_len start bits)) ≡ true_count bits
pruned_count pruned zone_len start bits = length-map (rows_pruned pruned zone_len start bits) truth ∙ length-map (rows_of start bits) (λ row. get_or pruned (row / zone_len) false) ∙ rows_count start bits

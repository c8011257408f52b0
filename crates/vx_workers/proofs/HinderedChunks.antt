-- What the first hindrance of a plan's rows is to a chunk.
use Rattle.std.proofs.Common.{◌≡◌, ℕ, ◌+◌, ◌<◌, ◌≤◌, ◌⊎◌, inl, inr, true, [], Some, None, length, refl, ap, sym, subst, arith}
use Rattle.std.specs.List.{slice_get}
use Rattle.std.proofs.lemmas.Bool.{cases_lt}
use Rattle.std.proofs.lemmas.Option.{slice_get_within}
use Rattle.vx_rows.specs.Derivations.{Derivation}
use Rattle.vx_rows.specs.Heads.{Head}
use Rattle.vx_rows.specs.Reads.{directly, Found, reads_of, Finds, IsIn}
use Rattle.vx_plan.specs.Plans.{Plan, no_plan, concat_plan, eval_plan, filter_plan, pack_plan, take_plan, share_plan, list_plan, row_idx_plan, scan_plan, zoned_plan, pruning_plan, plan_head}
use Rattle.vx_plan.specs.PlanRows.{plan_derivation}
use Rattle.vx_plan.specs.Refs.{number_of}
use Rattle.vx_plan.specs.Tables.{IsGoodTable}
use Rattle.vx_plan.proofs.Adding.{head_in_table}
use Rattle.vx_plan.proofs.FittingPlans.{rows_fit}
use Rattle.vx_steps.specs.declared.hindrances.Hindrance.{Hindrance}
use Rattle.vx_steps.specs.declared.hindrances.Hindrance.TheVariants as hindrances
use Rattle.vx_steps.specs.Given.{values_for}
use Rattle.vx_steps.specs.Hindrances.{IsHindrance, IsOne}
use Rattle.vx_steps.specs.Laws.{HandsNone, IsRowOf, row_reads}
use Rattle.vx_steps.specs.Visits.{Test, SomeVisit, Visits, IsLeafRead, IsListRead}
use Rattle.vx_steps.proofs.PlacedVisits.{visit_mapped, Implies}
use Rattle.vx_steps.proofs.ReadVisits.{list_visit, plan_leaf_visit, selected_read}
use Rattle.vx_steps.proofs.VisitedReads.{list_found, none_served}
use Rattle.vx_splits.specs.declared.selected_rows.SelectedRows.{SelectedRows}
use Rattle.vx_drive.specs.declared.plans.ScanPlans.{ScanPlans}
use Rattle.vx_drive.specs.Plans.{projection_node, projection_plan, IsChunkOf}
use Rattle.vx_chunks.specs.ChunkRows.{given_to, ChunkReaches, ChunkReadsList}
use Rattle.vx_chunks.proofs.NothingGiven.{free_reads, plain_reads, plan_reaches}
use Rattle.vx_chunks.proofs.WholeReads.{visit_chosen, Chooses}
use Rattle.vx_workers.specs.Unhindered.{IsUnhindered}

-- ---- one test for another

list_hinders : (places list : ℕ) → Implies (IsListRead list) (IsHindrance places (hindrances.List list))
list_hinders places list handed (no_plan head) row v = v
list_hinders places list handed (concat_plan head children) row v = v
list_hinders places list handed (eval_plan head e child) row v = v
list_hinders places list handed (filter_plan head child) row v = v
list_hinders places list handed (pack_plan head children validity) row v = v
list_hinders places list handed (take_plan head codes values) row v = v
list_hinders places list handed (share_plan head child) row v = v
list_hinders places list handed (list_plan head elements offsets validity) row v = v
list_hinders places list handed (row_idx_plan head) row v = v
list_hinders places list handed (scan_plan head segment coding) row v = absurd v
list_hinders places list handed (zoned_plan head zones content table) row v = v
list_hinders places list handed (pruning_plan head pruning table) row v = v

hinders_list : (places list : ℕ) → Implies (IsHindrance places (hindrances.List list)) (IsListRead list)
hinders_list places list handed (no_plan head) row v = v
hinders_list places list handed (concat_plan head children) row v = v
hinders_list places list handed (eval_plan head e child) row v = v
hinders_list places list handed (filter_plan head child) row v = v
hinders_list places list handed (pack_plan head children validity) row v = v
hinders_list places list handed (take_plan head codes values) row v = v
hinders_list places list handed (share_plan head child) row v = v
hinders_list places list handed (list_plan head elements offsets validity) row v = v
hinders_list places list handed (row_idx_plan head) row v = v
hinders_list places list handed (scan_plan head segment coding) row v = absurd v
hinders_list places list handed (zoned_plan head zones content table) row v = v
hinders_list places list handed (pruning_plan head pruning table) row v = v

leaf_hinders : (places leaf segment : ℕ) → places ≤ segment → Implies (IsLeafRead (record { leaf = leaf; segment = segment })) (IsHindrance places (hindrances.Segment segment))
leaf_hinders places leaf segment past handed (no_plan head) row v = v
leaf_hinders places leaf segment past handed (concat_plan head children) row v = v
leaf_hinders places leaf segment past handed (eval_plan head e child) row v = v
leaf_hinders places leaf segment past handed (filter_plan head child) row v = v
leaf_hinders places leaf segment past handed (pack_plan head children validity) row v = v
leaf_hinders places leaf segment past handed (take_plan head codes values) row v = v
leaf_hinders places leaf segment past handed (share_plan head child) row v = v
leaf_hinders places leaf segment past handed (list_plan head elements offsets validity) row v = absurd v
leaf_hinders places leaf segment past handed (row_idx_plan head) row v = v
leaf_hinders places leaf segment past handed (scan_plan head at coding) row v = (v.1, subst (λ (n : ℕ). places ≤ n) (sym v.1) past)
leaf_hinders places leaf segment past handed (zoned_plan head zones content table) row v = v
leaf_hinders places leaf segment past handed (pruning_plan head pruning table) row v = v

-- a leaf over the segment, which has no place
record Unplaced (places segment : ℕ) : Type 0 where
  leaf : ℕ
  past : places ≤ segment

abbrev is_unplaced : (places segment : ℕ) → Unplaced places segment → Test
is_unplaced places segment one = IsLeafRead (record { leaf = one.leaf; segment = segment })

hinders_leaf : (places segment : ℕ) → Chooses (IsHindrance places (hindrances.Segment segment)) (is_unplaced places segment)
hinders_leaf places segment handed (no_plan head) row v = absurd v
hinders_leaf places segment handed (concat_plan head children) row v = absurd v
hinders_leaf places segment handed (eval_plan head e child) row v = absurd v
hinders_leaf places segment handed (filter_plan head child) row v = absurd v
hinders_leaf places segment handed (pack_plan head children validity) row v = absurd v
hinders_leaf places segment handed (take_plan head codes values) row v = absurd v
hinders_leaf places segment handed (share_plan head child) row v = absurd v
hinders_leaf places segment handed (list_plan head elements offsets validity) row v = absurd v
hinders_leaf places segment handed (row_idx_plan head) row v = absurd v
hinders_leaf places segment handed (scan_plan head at coding) row v = (record { leaf = head.number; past = subst (λ (n : ℕ). places ≤ n) v.0 v.1 }, (refl, v.0))
hinders_leaf places segment handed (zoned_plan head zones content table) row v = absurd v
hinders_leaf places segment handed (pruning_plan head pruning table) row v = absurd v

-- ---- what the plan's own definition reads

no_values : HandsNone None
no_values n = refl

-- with nothing handed in a row reads what the plan reads
bare_reads : (P : Found → Type 0) (plans : ScanPlans) (p : Plan) (row : ℕ) → Finds P (row_reads None plans.row_offset p row) → Finds P (row_reads (given_to plans []) plans.row_offset p row)
bare_reads P plans p row any =
    free_reads P plans plans.row_offset p row (subst (λ (d : Derivation). Finds P (reads_of directly d)) (none_served (values_for None) no_values (plan_derivation plans.row_offset p row)) any)

reads_bare : (P : Found → Type 0) (plans : ScanPlans) (p : Plan) (row : ℕ) → Finds P (row_reads (given_to plans []) plans.row_offset p row) → Finds P (row_reads None plans.row_offset p row)
reads_bare P plans p row any =
    subst (λ (d : Derivation). Finds P (reads_of directly d)) (sym (none_served (values_for None) no_values (plan_derivation plans.row_offset p row))) (plain_reads P plans plans.row_offset p row any)

module _ (plans : ScanPlans) (chosen : SelectedRows) (good : IsGoodTable plans.table) (known : number_of plans.projection < length plans.table) (is : IsChunkOf plans chosen) (places : ℕ) (many : places ≡ length plans.locations.items) where
  -- a selected row is one of the plan's
  row_there : (place : ℕ) → slice_get chosen.mask place ≡ Some true → chosen.scope.rows.start + place < (plan_head (projection_plan plans)).rows
  row_there place at =
      let within : place < length chosen.mask = slice_get_within chosen.mask place true at in
      let same : (plan_head (projection_plan plans)).rows ≡ (projection_node plans).rows = ap (λ (head : Head). head.rows) (head_in_table plans.table good (number_of plans.projection) known) in
      let inside = is.inside in
      let long = is.mask in
      let forwards = is.forwards in
      omega (arith, within, same, inside, long, forwards)

  abbrev Hinders : Hindrance → Type 0
  Hinders x = SomeVisit (IsHindrance places x) None (projection_plan plans) chosen.scope.rows.start chosen.mask

  list_there : IsOne Hinders None → (list : ℕ) → ChunkReadsList plans [] chosen list → ⊥
  list_there none list (place, at, any) =
      none (hindrances.List list) (
        place,
        at,
        visit_mapped (IsListRead list) (IsHindrance places (hindrances.List list)) (list_hinders places list) None (projection_plan plans) (chosen.scope.rows.start + place)
            (list_visit None plans.row_offset (projection_plan plans) directly (chosen.scope.rows.start + place) list (rows_fit plans.table good (number_of plans.projection) known) (row_there place at)
            (reads_bare (IsRowOf list) plans (projection_plan plans) (chosen.scope.rows.start + place) any)),
      )

  located_there : IsOne Hinders None → (segment : ℕ) → ChunkReaches plans chosen segment → segment < length plans.locations.items
  located_there none segment (place, at, any) = by_order (cases_lt segment places)
    where
      by_order : (segment < places) ⊎ (places ≤ segment) → segment < length plans.locations.items
      by_order (inl below) = omega (arith, many, below)
      by_order (inr past) =
          let row : ℕ = chosen.scope.rows.start + place in
          let leaf = plan_leaf_visit None plans.row_offset (projection_plan plans) row segment no_values (rows_fit plans.table good (number_of plans.projection) known) (row_there place at) (plain_reads (IsIn segment) plans plans.row_offset (projection_plan plans) row any) in
          absurd (none (hindrances.Segment segment) (
            place,
            at,
            visit_mapped (IsLeafRead (record { leaf = leaf.0; segment = segment })) (IsHindrance places (hindrances.Segment segment)) (leaf_hinders places leaf.0 segment past) None (projection_plan plans) row leaf.1,
          ))

  -- nothing hinders it
  pub none_hinders : IsOne Hinders None → IsUnhindered plans chosen
  none_hinders none = record { no_list = list_there none; located = located_there none }

  -- a list does
  pub list_hindered : (list : ℕ) → Hinders (hindrances.List list) → ChunkReadsList plans [] chosen list
  list_hindered list (place, at, v) = (
    place,
    at,
    bare_reads (IsRowOf list) plans (projection_plan plans) (chosen.scope.rows.start + place)
        (list_found None plans.row_offset (projection_plan plans) directly (chosen.scope.rows.start + place) list
        (visit_mapped (IsHindrance places (hindrances.List list)) (IsListRead list) (hinders_list places list) None (projection_plan plans) (chosen.scope.rows.start + place) v)),
  )

  -- or a segment
  pub segment_hindered : (segment : ℕ) → Hinders (hindrances.Segment segment) → ChunkReaches plans chosen segment × (length plans.locations.items ≤ segment)
  segment_hindered segment (place, at, v) =
      let one : (x : Unplaced places segment) × Visits (is_unplaced places segment x) None (projection_plan plans) (chosen.scope.rows.start + place) =
      visit_chosen (IsHindrance places (hindrances.Segment segment)) (is_unplaced places segment) (hinders_leaf places segment) None (projection_plan plans) (chosen.scope.rows.start + place) v in (
        plan_reaches plans chosen segment (selected_read None plans.row_offset (projection_plan plans) chosen.scope.rows.start chosen.mask (record { leaf = one.0.leaf; segment = segment }) (place, at, one.1)),
        (let past = one.0.past in omega (arith, many, past)),
      )

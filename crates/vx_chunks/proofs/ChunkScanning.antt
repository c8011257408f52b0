-- The scan of a chunk as it is made, and with what is handed in.
use Rattle.std.proofs.Common.{◌≡◌, ℕ, ◌+◌, ◌<◌, ◌≤◌, List, [], ◌∷◌, length, map, refl, sym, ap, ◌∙◌, subst, arith}
use Rattle.std.specs.Prelude.{slice_index_or}
use Rattle.std.specs.List.{AllByRecursion}
use Rattle.vx_rows.specs.SegmentLeaves.{leaves_of}
use Rattle.vx_plan.specs.Nodes.{Node}
use Rattle.vx_plan.specs.Refs.{number_of}
use Rattle.vx_plan.specs.Tables.{IsGoodTable}
use Rattle.vx_steps.specs.declared.splits.Split.{Split}
use Rattle.vx_steps.specs.Held.{AreMade, AreTyped, HaveLeaves}
use Rattle.vx_steps.specs.Jobs.{IsUnstarted}
use Rattle.vx_steps.specs.KeptData.{Kept}
use Rattle.vx_steps.specs.Offers.{IsForPlan, Keeps}
use Rattle.vx_steps.specs.Splits.{IsInside}
use Rattle.vx_steps.specs.ScanData.{ScanData, IsNew, IsOfHanded, StaysTold}
use Rattle.vx_steps.specs.Standings.{none_given, numbers_from}
use Rattle.vx_steps.proofs.Fitting.{fitting_typed, none_typed}
use Rattle.vx_splits.specs.declared.selected_rows.SelectedRows.{SelectedRows}
use Rattle.vx_drive.specs.declared.plans.ScanPlans.{ScanPlans}
use Rattle.vx_drive.specs.Plans.{ArePlans, IsChunkOf, projection_node}
use Rattle.vx_drive.specs.Starts.{no_rows, split_of}
use Rattle.vx_chunks.specs.ChunkScans.{IsChunkScan}
use Rattle.vx_chunks.specs.LeafRows.{split_in}

-- The table is a good one, the projection is one of its plans, and the chunk lies inside it.
pub record IsGoodChunk (plans : ScanPlans) (chosen : SelectedRows) : Type 0 where
  pub good : IsGoodTable plans.table
  pub known : number_of plans.projection < length plans.table
  pub inside : chosen.scope.rows.start + length chosen.mask ≤ (projection_node plans).rows

pub good_chunk : (plans : ScanPlans) (chosen : SelectedRows) → IsGoodTable plans.table → number_of plans.projection < length plans.table → IsChunkOf plans chosen → IsGoodChunk plans chosen
good_chunk plans chosen good known is =
    let forwards = is.forwards in
    let inside = is.inside in
    let mask = is.mask in
    record { good = good; known = known; inside = omega (arith, forwards, inside, mask) }

-- the chunk alone is inside the projection's rows
pub inside_one : (plans : ScanPlans) (chosen : SelectedRows) (splits : List Split) → IsChunkOf plans chosen → splits ≡ split_in chosen ∷ [] → AllByRecursion (IsInside (projection_node plans).rows) splits
inside_one plans chosen splits is one = subst (AllByRecursion (IsInside (projection_node plans).rows)) (sym one) ((is.forwards, is.inside, is.mask), tt)

begins_literal : (plans : ScanPlans) (chosen : SelectedRows) (splits : List Split) (scan : ScanData) → ArePlans plans → IsGoodTable plans.table → splits ≡ split_in chosen ∷ [] → IsNew plans.table (number_of plans.projection) splits scan →
    StaysTold scan (record scan { job = record scan.job { offset = plans.row_offset }; progress = record scan.progress { wholes = record scan.progress.wholes { made = [] } } }) → IsChunkScan plans chosen [] [] [] (record scan { job = record scan.job { offset = plans.row_offset }; progress = record scan.progress { wholes = record scan.progress.wholes { made = [] } } })
begins_literal plans chosen splits scan are good one new told =
    let items : scan.job.splits.items ≡ split_in chosen ∷ [] = new.splits_are ∙ one in
    let split : split_of scan ≡ split_in chosen = ap (λ (ss : List Split). slice_index_or ss 0 no_rows) items in
    record {
      nodes = new.nodes_are;
      plan = new.plan_is;
      offset = refl;
      given_is = new.given;
      split = split;
      leaves_are = new.leaves;
      made_are = refl;
      told = λ bytes is. told bytes (new.told bytes);
      unread = record {
        good = subst IsGoodTable (sym new.nodes_are) good;
        known = let plan = new.plan_is in let nodes = ap length new.nodes_are in let known = are.known in omega (arith, plan, nodes, known);
        typed = subst (AreTyped scan.nodes) (sym new.given) (none_typed scan.nodes);
        splits = items ∙ ap (λ (s : Split). s ∷ []) (sym split);
        left = new.left ∙ ap (λ (ss : List Split). map none_given (numbers_from 0 ss)) (one ∙ ap (λ (s : Split). s ∷ []) (sym split));
        wanted = new.unstarted.wanted;
        refused = new.refused;
      };
      unstarted = record { next = new.unstarted.next; started = new.unstarted.started; wanted = new.unstarted.wanted; used = new.unstarted.used };
      handed = new.handed;
    }

-- the scan of a chunk is new, with the offset of the plans
pub begins : (plans : ScanPlans) (chosen : SelectedRows) (splits : List Split) (scan made : ScanData) → ArePlans plans → IsGoodTable plans.table → splits ≡ split_in chosen ∷ [] → IsNew plans.table (number_of plans.projection) splits scan →
    made ≡ record scan { job = record scan.job { offset = plans.row_offset }; progress = record scan.progress { wholes = record scan.progress.wholes { made = [] } } } → StaysTold scan made → IsChunkScan plans chosen [] [] [] made
begins plans chosen splits scan made are good one new is told =
    subst (IsChunkScan plans chosen [] [] []) (sym is) (begins_literal plans chosen splits scan are good one new (subst (StaysTold scan) is told))

-- ---- with what is handed in

given_literal : (plans : ScanPlans) (chosen : SelectedRows) (given fitting leaves made : List Kept) (scan : ScanData) → IsChunkScan plans chosen [] leaves made scan → Keeps (IsForPlan scan.nodes) given fitting → StaysTold scan (record scan { job = record scan.job { given = fitting } }) →
    IsChunkScan plans chosen fitting leaves made (record scan { job = record scan.job { given = fitting } })
given_literal plans chosen given fitting leaves made scan is keeps told = record {
  nodes = is.nodes;
  plan = is.plan;
  offset = is.offset;
  given_is = refl;
  split = is.split;
  leaves_are = is.leaves_are;
  made_are = is.made_are;
  told = λ bytes held. told bytes (is.told bytes held);
  unread = record {
    good = is.unread.good;
    known = is.unread.known;
    typed = fitting_typed scan.nodes given fitting keeps;
    splits = is.unread.splits;
    left = is.unread.left;
    wanted = is.unread.wanted;
    refused = is.unread.refused;
  };
  unstarted = is.unstarted;
  handed = is.handed;
}

pub with_given : (plans : ScanPlans) (chosen : SelectedRows) (given fitting leaves made : List Kept) (scan more : ScanData) → IsChunkScan plans chosen [] leaves made scan → Keeps (IsForPlan scan.nodes) given fitting →
    more ≡ record scan { job = record scan.job { given = fitting } } → StaysTold scan more → IsChunkScan plans chosen fitting leaves made more
with_given plans chosen given fitting leaves made scan more is keeps same told =
    subst (IsChunkScan plans chosen fitting leaves made) (sym same) (given_literal plans chosen given fitting leaves made scan is keeps (subst (StaysTold scan) same told))

handed_literal : (plans : ScanPlans) (chosen : SelectedRows) (leaves made : List Kept) (scan : ScanData) → IsChunkScan plans chosen [] [] [] scan → IsOfHanded (record scan { progress = record scan.progress { leaves = leaves; wholes = record scan.progress.wholes { made = made } } }) →
    IsChunkScan plans chosen [] leaves made (record scan { progress = record scan.progress { leaves = leaves; wholes = record scan.progress.wholes { made = made } } })
handed_literal plans chosen leaves made scan is told = record {
  nodes = is.nodes;
  plan = is.plan;
  offset = is.offset;
  given_is = is.given_is;
  split = is.split;
  leaves_are = refl;
  made_are = refl;
  told = λ bytes held. told bytes (subst (λ (ns : List Node). HaveLeaves ns leaves (leaves_of bytes)) (sym is.nodes) held.leaves_are)
      (subst (λ (n : ℕ). AreMade scan.nodes n made (leaves_of bytes)) (sym is.offset) (subst (λ (ns : List Node). AreMade ns plans.row_offset made (leaves_of bytes)) (sym is.nodes) held.made_are));
  unread = record {
    good = is.unread.good;
    known = is.unread.known;
    typed = is.unread.typed;
    splits = is.unread.splits;
    left = is.unread.left;
    wanted = is.unread.wanted;
    refused = is.unread.refused;
  };
  unstarted = record { next = is.unstarted.next; started = is.unstarted.started; wanted = is.unstarted.wanted; used = is.unstarted.used };
  handed = is.handed;
}

-- a scan that was handed leaves was not started by that
pub leaves_unstarted : (leaves : List Kept) (scan first : ScanData) → IsUnstarted scan.progress → first ≡ record scan { progress = record scan.progress { leaves = leaves } } → IsUnstarted first.progress
leaves_unstarted leaves scan first is one =
    subst (λ (s : ScanData). IsUnstarted s.progress) (sym one) (record { next = is.next; started = is.started; wanted = is.wanted; used = is.used })

pub with_handed : (plans : ScanPlans) (chosen : SelectedRows) (leaves made : List Kept) (scan first second : ScanData) → IsChunkScan plans chosen [] [] [] scan → first ≡ record scan { progress = record scan.progress { leaves = leaves } } →
    second ≡ record first { progress = record first.progress { wholes = record first.progress.wholes { made = made } } } → IsOfHanded second → IsChunkScan plans chosen [] leaves made second
with_handed plans chosen leaves made scan first second is one two told =
    let same : second ≡ record scan { progress = record scan.progress { leaves = leaves; wholes = record scan.progress.wholes { made = made } } } =
    two ∙ ap (λ (s : ScanData). record s { progress = record s.progress { wholes = record s.progress.wholes { made = made } } }) one in
    subst (IsChunkScan plans chosen [] leaves made) (sym same) (handed_literal plans chosen leaves made scan is (subst IsOfHanded same told))

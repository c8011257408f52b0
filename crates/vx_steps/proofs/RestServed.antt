-- Where bytes are gone from memory that rows read which are left, the columns of the leaves were kept.
use Rattle.std.proofs.Common.{◌≡◌, ℕ, ◌+◌, ◌<◌, ◌≤◌, ◌⊎◌, inl, inr, ⊎_elim, List, Some, length, map, drop, refl, sym, ap, ◌∙◌, subst}
use Rattle.std.specs.List.{slice_get}
use Rattle.std.proofs.lemmas.Option.{same_Some}
use Rattle.vx_plan.specs.Nodes.{Node}
use Rattle.vx_plan.specs.Plans.{plan_at}
use Rattle.vx_plan.specs.Tables.{IsGoodTable}
use Rattle.vx_steps.specs.declared.jobs.ActiveSplit.{ActiveSplit}
use Rattle.vx_steps.specs.declared.jobs.Job.{Job}
use Rattle.vx_steps.specs.declared.jobs.Progress.{Progress}
use Rattle.vx_steps.specs.declared.leaf_reads.LeafRead.{LeafRead}
use Rattle.vx_steps.specs.declared.splits.Split.{Split}
use Rattle.vx_steps.specs.Given.{handed_by}
use Rattle.vx_steps.specs.Kept.{IsKept}
use Rattle.vx_steps.specs.Needs.{Among}
use Rattle.vx_steps.specs.Pieces.{piece_of, read_of}
use Rattle.vx_steps.specs.Releasing.{IsSpent, NoneReads}
use Rattle.vx_steps.specs.Running.{IsGoing}
use Rattle.vx_steps.specs.Standings.{none_given, numbers_from, split_left, standing_of, SplitLeft}
use Rattle.vx_steps.specs.Steps.{ServesRest}
use Rattle.vx_steps.specs.Turns.{ReadsFor}
use Rattle.vx_steps.specs.Visits.{Visits, IsLeafRead}
use Rattle.vx_steps.proofs.LeafShapes.{read_shape}
use Rattle.vx_steps.proofs.OpenReads.{among_mapped, left_row, mapped_from, numbers_behind, read_open}
use Rattle.vx_steps.proofs.Selecting.{among_split}

pub rest_served : (nodes : List Node) → IsGoodTable nodes → (job : Job) (progress : Progress) → job.plan < length nodes → IsGoing nodes job progress → ServesRest nodes job (standing_of progress)
rest_served nodes good job progress known going s split read among at reads gone = by (among_split s (map split_left progress.active.items) (map none_given (numbers_from progress.next (drop progress.next job.splits.items))) among)
  where
    started : (active : ActiveSplit) × Among active progress.active.items × (split_left active ≡ s) → IsKept progress.store.columns.all read.leaf
    started (active, m, e) =
        let one = going.actives active m in
        let is = one.started in
        let same : is.split ≡ split = same_Some is.split split (sym is.at ∙ ap (λ (x : SplitLeft). slice_get job.splits.items x.number) e ∙ at) in
        let G : SplitLeft → Type 0 = λ x. ReadsFor nodes job (piece_of split x.given (length split.mask)) read in
        let R : Split → Type 0 = λ x. ReadsFor nodes job (piece_of x active.at.done (length x.mask)) read in
        let here : R is.split = subst R (sym same) (subst G (sym e) reads) in
        let need = read_open nodes job is.split active.needs.items active.at.done read is.placed here in
        let served = going.serves.served active m in
        served.held read (subst (λ (r : LeafRead). Among r (map read_of active.needs.items)) need.2 (among_mapped read_of need.0 active.needs.items need.1)) gone

    to_come : (number : ℕ) × Among number (numbers_from progress.next (drop progress.next job.splits.items)) × (none_given number ≡ s) → IsKept progress.store.columns.all read.leaf
    to_come (number, m, e) =
        let behind : progress.next ≤ number = numbers_behind (drop progress.next job.splits.items) progress.next number m in
        let own : slice_get job.splits.items number ≡ Some split = ap (λ (x : SplitLeft). slice_get job.splits.items x.number) e ∙ at in
        let G : SplitLeft → Type 0 = λ x. ReadsFor nodes job (piece_of split x.given (length split.mask)) read in
        let row = left_row (Visits (IsLeafRead read) (handed_by nodes (Some job.given)) (plan_at nodes job.plan)) split.rows.start split.mask 0 (subst G (sym e) reads) in
        ⊎_elim
        (λ (spent : IsSpent nodes progress.store.columns.all read.segment). spent read.leaf (read_shape nodes good job.plan known read (handed_by nodes (Some job.given)) (split.rows.start + row.0) row.3))
        (λ (none : NoneReads nodes job progress.next read.segment). absurd (none number split read behind own (row.0, row.2, row.3) refl))
        (going.serves.gone_late read.segment gone)

    by : Among s (map split_left progress.active.items) ⊎ Among s (map none_given (numbers_from progress.next (drop progress.next job.splits.items))) → IsKept progress.store.columns.all read.leaf
    by (inl m) = started (mapped_from split_left s progress.active.items m)
    by (inr m) = to_come (mapped_from none_given s (numbers_from progress.next (drop progress.next job.splits.items)) m)
